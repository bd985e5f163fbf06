-- The commands' table agrees with the log after a landing that carries out a command.
use Rattle.std.proofs.Common.{◌≡◌, ◌≢◌, ℕ, ◌<◌, ◌⊎◌, inl, inr, List, [], ◌∷◌, ◌++◌, length, Bool, true, false, cond, Option, Some, IsSome, Contains, refl, sym, ap, ◌∙◌, subst, true≢false, arith, bytes_eq}
use Rattle.std.specs.Prelude.{IsTrue, slice_index}
use Rattle.std.specs.List.{list_any}
use Rattle.std.specs.Cmp.Lexicographic.{bytes_decides}
use Rattle.std.proofs.lemmas.Bool.{cond-false, cond-true, false_from_ne_true, or_from, or_left, or_right}
use Rattle.job_rules.proofs.Among.{Among, among_flat, among_flattened, among_from, among_map, any_at, any_from, contains_from}
use Rattle.kvs_rules.proofs.Asking.{command_is}
use Rattle.kvs_rules.proofs.Sequences.{until-append}
use Rattle.kvs_rules.specs.Landings.{names_of_group}
use Rattle.kvs_rules.specs.Log.{is_author}
use Rattle.kvs_txn.specs.declared.txn.By.{By}
use Rattle.kvs_txn.specs.declared.txn.Group.{Group}
use Rattle.instance_rules.specs.Desks.{Begins, HasBegun, HasSubmitted, Names}
use Rattle.instance_rules.specs.Log.{Instance, IsOpen, JobAsk as Asks, Log, Moment, Named, Submit, is_decided, issues_now, now_of}
use Rattle.instance_rules.specs.Replies.{AsksForEvent, IsCarriedOut}
use Rattle.job_commands.specs.Agrees.{AgreesCommands, HasLanded, HasRow, HasUniqueLabels, IsDrawn, RowAgrees, StageAgrees, id_at}
use Rattle.job_commands.specs.Asks.{told}
use Rattle.job_commands.specs.Children.{AreChildrenOf}
use Rattle.job_commands.specs.Moments.{CarriesOut, IsAside, landing as lands_at}
use Rattle.job_commands.specs.Rows.{AreCarried, CommandsValue, carried, is_of, is_submit, job_at}
use Rattle.job_commands.specs.declared.ask.JobAsk.{JobAsk}
use Rattle.job_commands.specs.declared.ask.JobAsk.TheVariants as ask
use Rattle.job_commands.specs.declared.row.Row.{Row}
use Rattle.job_commands.specs.declared.row.Stage.TheVariants as stage
use Rattle.job_commands.proofs.Children.{children_left}
use Rattle.job_commands.proofs.Finding.{bytes_same}
use Rattle.job_commands.proofs.Logs.{begun_before, count_push, decided_kept, decided_push, open_before, open_kept, row_kept, same_self, serves}
use Rattle.job_commands.proofs.Marks.{drawn_same}
use Rattle.job_commands.proofs.Steps.{asks_some, names_kept}
use Rattle.job_commands.proofs.Tables.{carried_at, carried_by, carried_past, drawn_fewer, drawn_still, from_carried, of_it, of_other, to_carried, waits_past}

in_group : (x : By) (o : Option By) (bys : List By) → Among o (names_of_group bys) → is_author x o ≡ true → Among x bys
in_group x o [] (inl e) t = absurd (true≢false (sym t ∙ ap (is_author x) (sym e)))
in_group x o [] (inr i) t = absurd i
in_group x o (b ∷ bs) i t =
    let at = among_map Some (b ∷ bs) o i in
    subst (λ y. Among y (b ∷ bs)) (sym (command_is x at.0 (ap (is_author x) at.2 ∙ t))) at.1

module _ (inst : Instance) (by : By) (group : Group) (authors : List (Option By)) (groups : List Group) (number : ℕ) (w : CarriesOut inst by group authors groups) where
  abbrev pub landing : Moment
  landing = lands_at number authors groups

  pub is_it : (g : Group) (other : By) → Contains groups g → Contains g.authors other → IsSome (inst.asks other) → other ≡ by
  is_it g other c a some =
      let same : g.authors ≡ by ∷ [] = ap (λ x. x.authors) (w.only g other c a some) ∙ w.alone in
      elim (among_from (by ∷ []) other (subst (λ l. Contains l other) same a)) [ inl e ↦ sym e | inr none ↦ absurd none ]

  named : Among (Some by) authors
  named = subst (Among (Some by)) (sym w.names) (among_flattened (λ g. names_of_group g.authors) groups group (Some by) (among_from groups group w.one) (subst (λ l. Among (Some by) (names_of_group l)) (sym w.alone) (inl refl)))

  author_in : (x : By) → list_any (is_author x) authors ≡ true → (g : Group) × Contains groups g × Contains g.authors x
  author_in x e =
      let o = any_from (is_author x) authors e in
      let at = among_flat (λ g. names_of_group g.authors) groups o.0 (subst (Among o.0) w.names o.1) in
      (at.0, contains_from groups at.0 at.1, contains_from at.0.authors x (in_group x o.0 at.0.authors at.2 o.2))

  pub aside_other : (other : By) → IsSome (inst.asks other) → other ≢ by → IsAside other landing
  aside_other other some ne = record {
    issues = refl;
    replies = refl;
    decides = or_from (list_any (is_author other) authors) false (false_from_ne_true _ (λ e. let g = author_in other e in ne (is_it g.0 other g.1 g.2 some))) refl;
    groups = λ g c a. ne (is_it g other c a some);
  }

  module _ (log : Log) where
    abbrev pub later : Log
    later = log ++ landing ∷ []

    pub now_decided : is_decided by later ≡ true
    now_decided = decided_push by log landing ∙ or_right (is_decided by log) _ (or_left (list_any (is_author by) authors) false (any_at (is_author by) authors (Some by) named (same_self by)))

    pub now_carried : IsCarriedOut later by number
    now_carried = record { authors = authors; groups = groups; landing = serves log _; named = contains_from authors (Some by) named }

    pub now_begun : (id : ℕ) → Begins group id → HasBegun later by id number
    now_begun id b = record { authors = authors; groups = groups; landing = serves log _; group = group; one = w.one; alone = w.alone; begins = b }

    -- what has begun a job had done so before, or is this transaction
    pub begun_cases : (other : By) (id : ℕ) → IsSome (inst.asks other) → HasSubmitted later other id → HasSubmitted log other id ⊎ ((other ≡ by) × Begins group id)
    begun_cases other id some h = elim (begun_before log landing other id h.0 h.1) [
      | inl old ↦ inl (h.0, old)
      | inr now ↦
          let c : Contains now.group.authors other = subst (λ l. Contains l other) (sym now.alone) (contains_from (other ∷ []) other (inl refl)) in
          inr (is_it now.group other now.one c some, subst (λ g. Begins g id) (w.only now.group other now.one c some) now.begins)
    ]

    module _ (v new : CommandsValue) (rows : AreCarried by number v.rows new.rows) (issued : new.issued ≡ v.issued) (marks : new.marks ≡ v.marks) (children : new.children ≡ v.children) (h : AgreesCommands v inst log)
        (some : IsSome (inst.asks by)) (lands : (asked : JobAsk) → inst.asks by ≡ Some (told asked) → HasLanded later by number asked) where
      row_its : (y : Row) → Contains v.rows y → y.by ≡ by → RowAgrees inst later (record y { stage = stage.Landed number })
      row_its y c e =
          let r = h.rows y c in
          record {
            waits = open_kept y.by log landing refl r.waits;
            asks = r.asks;
            rank = r.rank;
            issued = r.issued ∙ sym (ap (now_of inst) (until-append (issues_now y.by) log (landing ∷ []) r.waits.issued));
            staged = subst (λ b. StageAgrees later b y.ask (stage.Landed number)) (sym e) (now_decided, lands y.ask (subst (λ b. inst.asks b ≡ Some (told y.ask)) e r.asks));
          }

      row_later : (y : Row) → Contains v.rows y → (b : Bool) → is_of by y ≡ b → RowAgrees inst later (carried by number y)
      row_later y c true t = subst (RowAgrees inst later) (sym (carried_at by number y t)) (row_its y c (of_it by y t))
      row_later y c false t =
          subst (RowAgrees inst later) (sym (carried_past by number y t))
          (row_kept inst log landing y (aside_other y.by (asks_some inst y.by _ (h.rows y c).asks) (of_other by y t)) (h.rows y c))

      rows_later : (x : Row) → Contains new.rows x → RowAgrees inst later x
      rows_later x c =
          let from = from_carried by number v.rows new.rows rows x c in
          subst (RowAgrees inst later) (sym from.2) (row_later from.0 from.1 (is_of by from.0) refl)

      waits_before : (x : Row) → Contains new.rows x → is_submit x ≡ true → Contains v.rows x
      waits_before x c e =
          let from = from_carried by number v.rows new.rows rows x c in
          let past = waits_past by number from.0 (subst (λ r. is_submit r ≡ true) from.2 e) in
          subst (Contains v.rows) (sym (from.2 ∙ past.1)) from.1

      -- a submission that waits still is of another command
      waits_other : (x : Row) → Contains new.rows x → is_submit x ≡ true → x.by ≢ by
      waits_other x c e =
          let from = from_carried by number v.rows new.rows rows x c in
          let past = waits_past by number from.0 (subst (λ r. is_submit r ≡ true) from.2 e) in
          subst (λ r. r.by ≢ by) (sym (from.2 ∙ past.1)) (of_other by from.0 past.0)

      all_later : (other : By) (asked : JobAsk) → inst.asks other ≡ Some (told asked) → IsOpen other later → HasRow new other
      all_later other asked e o =
          let r = h.all other asked e (open_before other log landing refl o) in
          (carried by number r.0, to_carried by number v.rows new.rows rows r.0 r.1, carried_by by number r.0 ∙ r.2)

      decided_later : (other : By) (id : ℕ) → IsSome (inst.asks other) → HasSubmitted later other id → IsTrue (is_decided other later)
      decided_later other id some2 begun = elim (begun_cases other id some2 begun) [
        | inl old ↦ decided_kept other log landing (h.decided other id some2 old)
        | inr now ↦ subst (λ b. is_decided b later ≡ true) (sym now.0) now_decided
      ]

      pub lands_agrees : ((label : List ℕ) (id : ℕ) → (job_at label new.labels ≡ Some id → Names inst later label id) × (Names inst later label id → job_at label new.labels ≡ Some id))
          → ((label : List ℕ) (id : ℕ) → job_at label new.labels ≡ Some id → IsDrawn new inst.birth id) → AgreesCommands new inst later
      lands_agrees labels used = record {
        labels = λ label id. let both = labels label id in (both.0, both.1);
        rows = rows_later;
        all = all_later;
        issued = λ rank t. ap (λ l. slice_index l rank) issued ∙ h.issued rank (subst (λ l. rank < length l) issued t) ∙ sym (count_push inst rank log landing ∙ omega arith);
        drawn = drawn_fewer v new waits_before issued marks inst.birth used h.drawn;
        children = subst (λ l. AreChildrenOf l later) (sym children) (children_left v.children log landing (λ job. refl) h.children);
        decided = decided_later;
      }

    -- ---- an event

    module _ (v new : CommandsValue) (labels : new.labels ≡ v.labels) (rows : AreCarried by number v.rows new.rows) (issued : new.issued ≡ v.issued) (marks : new.marks ≡ v.marks) (children : new.children ≡ v.children) (h : AgreesCommands v inst log)
        (asked : Asks) (asks : inst.asks by ≡ Some asked) (event : AsksForEvent asked) where
      no_submission : (label : List ℕ) (urgency : ℕ) (needs : List Named) (text : List ℕ) → inst.asks by ≡ Some (Submit label urgency needs text) → ⊥
      no_submission label urgency needs text e =
          let both : Some (Submit label urgency needs text) ≡ Some asked = sym e ∙ asks in
          let same : Submit label urgency needs text ≡ asked = cc in
          subst AsksForEvent (sym same) event

      asks_event : (a : JobAsk) → inst.asks by ≡ Some (told a) → AsksForEvent (told a)
      asks_event a e =
          let both : Some (told a) ≡ Some asked = sym e ∙ asks in
          let same : told a ≡ asked = cc in
          subst AsksForEvent (sym same) event

      event_lands : (a : JobAsk) → inst.asks by ≡ Some (told a) → HasLanded later by number a
      event_lands (ask.Submit label urgency needs text) e = absurd (no_submission _ _ _ _ e)
      event_lands (ask.Cancel label) e = now_carried
      event_lands (ask.Raise label kind severity note) e = now_carried
      event_lands (ask.Urge label urgency) e = now_carried
      event_lands (ask.StateOf label) e = asks_event (ask.StateOf label) e
      event_lands (ask.Info label key) e = asks_event (ask.Info label key) e
      event_lands ask.Jobs e = asks_event ask.Jobs e
      event_lands (ask.Why label) e = asks_event (ask.Why label) e
      event_lands (ask.ResultOf label) e = asks_event (ask.ResultOf label) e
      event_lands (ask.Watch label) e = asks_event (ask.Watch label) e
      event_lands (ask.Advance seconds) e = asks_event (ask.Advance seconds) e

      names_before : (label : List ℕ) (id : ℕ) → Names inst later label id → Names inst log label id
      names_before label id n = record {
        by = n.by;
        urgency = n.urgency;
        needs = n.needs;
        text = n.text;
        asks = n.asks;
        landed = elim (begun_cases n.by id (asks_some inst n.by _ n.asks) n.landed) [
          | inl old ↦ old
          | inr now ↦ absurd (no_submission _ _ _ _ (subst (λ b. inst.asks b ≡ Some (Submit label n.urgency n.needs n.text)) now.0 n.asks))
        ];
      }

      pub event_agrees : AgreesCommands new inst later
      event_agrees =
          lands_agrees v new rows issued marks children h (asks_some inst by asked asks) event_lands
          (λ label id. (
            λ e. names_kept inst log landing label id ((h.labels label id).0 (sym (ap (job_at label) labels) ∙ e)),
            λ n. ap (job_at label) labels ∙ (h.labels label id).1 (names_before label id n),
          ))
          (λ label id e. drawn_still v new (waits_before v new rows issued marks children h (asks_some inst by asked asks) event_lands) issued marks inst.birth id (h.drawn.used label id (sym (ap (job_at label) labels) ∙ e)))

    -- ---- a submission

    module _ (v new : CommandsValue) (rows : AreCarried by number v.rows new.rows) (issued : new.issued ≡ v.issued) (marks : new.marks ≡ v.marks) (children : new.children ≡ v.children) (h : AgreesCommands v inst log)
        (label : List ℕ) (urgency : ℕ) (needs : List Named) (text : List ℕ) (asks : inst.asks by ≡ Some (Submit label urgency needs text))
        (id : ℕ) (begins : Begins group id) (sole : (other : ℕ) → Begins group other → other ≡ id)
        (labels : (other : List ℕ) → job_at other new.labels ≡ cond (bytes_eq other label) (Some id) (job_at other v.labels))
        (unique : HasUniqueLabels inst) (undecided : is_decided by log ≡ false) where
      asked : {x : Asks} → inst.asks by ≡ Some x → Some x ≡ Some (Submit label urgency needs text)
      asked e = sym e ∙ asks

      lands : (a : JobAsk) → inst.asks by ≡ Some (told a) → HasLanded later by number a
      lands (ask.Submit l u ns t) e = (id, now_begun id begins)
      lands (ask.Cancel l) e = now_carried
      lands (ask.Raise l kind severity note) e = now_carried
      lands (ask.Urge l u) e = now_carried
      lands (ask.StateOf l) e = let same = asked e in cc
      lands (ask.Info l key) e = let same = asked e in cc
      lands ask.Jobs e = let same = asked e in cc
      lands (ask.Why l) e = let same = asked e in cc
      lands (ask.ResultOf l) e = let same = asked e in cc
      lands (ask.Watch l) e = let same = asked e in cc
      lands (ask.Advance seconds) e = let same = asked e in cc

      named_now : Names inst later label id
      named_now = record { by = by; urgency = urgency; needs = needs; text = text; asks = asks; landed = (number, now_begun id begins) }

      -- before, the label named nothing
      named_none : (other : ℕ) → Names inst log label other → ⊥
      named_none other n =
          let same : n.by ≡ by = unique n.by by label n.urgency urgency n.needs needs n.text text n.asks asks in
          true≢false (sym (h.decided n.by other (asks_some inst n.by _ n.asks) n.landed) ∙ ap (λ b. is_decided b log) same ∙ undecided)

      from_table : (l : List ℕ) (i : ℕ) → job_at l new.labels ≡ Some i → Names inst later l i
      from_table l i e = at (bytes_eq l label) refl
        where
          at : (b : Bool) → bytes_eq l label ≡ b → Names inst later l i
          at true t =
              let one : Some id ≡ Some i = sym (labels l ∙ cond-true (bytes_eq l label) _ _ t) ∙ e in
              let same : id ≡ i = cc in
              subst (λ x. Names inst later x i) (sym (bytes_same l label t)) (subst (Names inst later label) same named_now)
          at false t = names_kept inst log landing l i ((h.labels l i).0 (sym (labels l ∙ cond-false (bytes_eq l label) _ _ t) ∙ e))

      to_table : (l : List ℕ) (i : ℕ) → Names inst later l i → job_at l new.labels ≡ Some i
      to_table l i n = elim (begun_cases n.by i (asks_some inst n.by _ n.asks) n.landed) [
        | inl old ↦ labels l ∙ cond-false (bytes_eq l label) _ _ (false_from_ne_true _ (λ t. named_none i (subst (λ x. Names inst log x i) (bytes_same l label t) (before old))))
            ∙ (h.labels l i).1 (before old)
        | inr now ↦ labels l ∙ cond-true (bytes_eq l label) _ _ (subst (λ x. bytes_eq x label ≡ true) (sym (same_label now.0)) ((bytes_decides label label).1 refl)) ∙ ap Some (sym (sole i now.1))
      ]
        where
          before : HasSubmitted log n.by i → Names inst log l i
          before old = record { by = n.by; urgency = n.urgency; needs = n.needs; text = n.text; asks = n.asks; landed = old }

          same_label : n.by ≡ by → l ≡ label
          same_label e =
              let both : Some (Submit l n.urgency n.needs n.text) ≡ Some (Submit label urgency needs text) = sym n.asks ∙ ap inst.asks e ∙ asks in
              cc

      some_by : IsSome (inst.asks by)
      some_by = asks_some inst by _ asks

      drawn_now : (l : List ℕ) (i : ℕ) → IsDrawn new inst.birth id → job_at l new.labels ≡ Some i → IsDrawn new inst.birth i
      drawn_now l i d e = at (bytes_eq l label) refl
        where
          at : (b : Bool) → bytes_eq l label ≡ b → IsDrawn new inst.birth i
          at true t =
              let one : Some id ≡ Some i = sym (labels l ∙ cond-true (bytes_eq l label) _ _ t) ∙ e in
              let same : id ≡ i = cc in
              subst (IsDrawn new inst.birth) same d
          at false t = drawn_still v new (waits_before v new rows issued marks children h some_by lands) issued marks inst.birth i (h.drawn.used l i (sym (labels l ∙ cond-false (bytes_eq l label) _ _ t) ∙ e))

      pub submitted_agrees : (row : Row) → Contains v.rows row → row.by ≡ by → is_submit row ≡ true → id ≡ id_at inst.birth row.rank row.issued row.sequence → AgreesCommands new inst later
      submitted_agrees row known of waits made =
          lands_agrees v new rows issued marks children h some_by lands (λ l i. (from_table l i, to_table l i)) (λ l i. drawn_now l i drawn)
        where
          drawn : IsDrawn new inst.birth id
          drawn = record {
            rank = row.rank;
            second = row.issued;
            sequence = row.sequence;
            made = made;
            drawn = drawn_same v new issued marks inst.birth row.rank row.issued row.sequence (h.drawn.rows row known waits);
            other = λ r c e rank second sequence.
                waits_other v new rows issued marks children h some_by lands r c e
                (h.drawn.apart r row (waits_before v new rows issued marks children h some_by lands r c e) known e waits rank second sequence ∙ of);
          }
