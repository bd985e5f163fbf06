-- What the manager looks at is what the open commands and the labels give.
use Rattle.std.proofs.Common.{◌≡◌, ℕ, zero, suc, ◌<◌, ◌||◌, ◌&&◌, ◌⊎◌, inl, inr, List, [], ◌∷◌, length, Bool, true, false, cond, Option, Some, None, Contains, map, refl, sym, ap, ap₂, ◌∙◌, subst, true≢false, count_by, arith}
use Rattle.std.specs.Prelude.{All, filter_map, option_map, option_and_then, slice_index}
use Rattle.std.specs.List.{cons_option, list_any}
use Rattle.std.proofs.lemmas.Bool.{and_parts, false_from_ne_true}
use Rattle.std.proofs.lemmas.List.Folds.{list_any-append}
use Rattle.job_rules.proofs.Among.{Among, all_from, among_append, among_from, among_left, among_map, among_mapped, among_right, any_from, contains_from}
use Rattle.job_spec.specs.declared.spec.Depend.{Depend}
use Rattle.kvs_model.specs.Store.{Store}
use Rattle.kvs_rules.specs.Log.{same_command}
use Rattle.kvs_rules.specs.Sequence.{latest}
use Rattle.kvs_txn.specs.declared.txn.By.{By}
use Rattle.resource_set.specs.Writing.{r_text}
use Rattle.manager_rules.specs.declared.asked.Asked.{Asked}
use Rattle.manager_rules.specs.declared.asked.Asked.TheVariants as asked
use Rattle.manager_rules.specs.Jobs.{AreJobsOf, StoredJob}
use Rattle.manager_rules.specs.Posts as posts
use Rattle.manager_rules.specs.Scene.{IsAsked, has_child, has_living_child, is_child_of, is_living}
use Rattle.instance_rules.specs.Desks.{AreNamed, IsDeskOf, StandsAsked, StandsSubmitted, is_submission, submits_at}
use Rattle.instance_rules.specs.Log as rules
use Rattle.instance_rules.proofs.Feeding.{none_old}
use Rattle.instance_rules.specs.Log.{Instance, IsInstance, IsOpen, IsPending, JobAsk as Asks, Log, Served, Issued, Replied, Ticked, Born, Gone, Fed, Named as NamedJob, Submit, before_issue, child_of, is_decided, is_issued, now_of, seconds_from, seconds_open, ticked}
use Rattle.job_commands.specs.Agrees.{AgreesCommands, RowAgrees, StageAgrees}
use Rattle.job_commands.specs.Asks.{named_of, told}
use Rattle.job_commands.specs.Children.{all_children, asked_child}
use Rattle.job_commands.specs.Desks.{asked_at, asked_by, asked_in, asked_of, desk_of, needs_of, submit_at, submit_by, submits_of}
use Rattle.job_commands.specs.Rows.{CommandsValue, Labels, is_submit, is_waiting, job_at}
use Rattle.job_commands.specs.declared.ask.JobAsk.{JobAsk}
use Rattle.job_commands.specs.declared.ask.JobAsk.TheVariants as ask
use Rattle.job_commands.specs.declared.ask.Named.{Named}
use Rattle.job_commands.specs.declared.child.Child.{Child}
use Rattle.job_commands.specs.declared.row.Row.{Row}
use Rattle.job_commands.specs.declared.row.Stage.{Stage}
use Rattle.job_commands.specs.declared.row.Stage.TheVariants as stage

-- ---- lists

from_kept : {A B : Type 0} (f : A → Option B) (xs : List A) (y : B) → Among y (filter_map f xs) → (x : A) × Among x xs × (f x ≡ Some y)
from_kept f [] y i = absurd i
from_kept {A} {B} f (x ∷ xs) y i = at (f x) refl (from_kept f xs y) i
  where
    at : (o : Option B) → f x ≡ o → (Among y (filter_map f xs) → (z : A) × Among z xs × (f z ≡ Some y)) → Among y (cons_option o (filter_map f xs)) → (z : A) × Among z (x ∷ xs) × (f z ≡ Some y)
    at None e more j = let m = more j in (m.0, inr m.1, m.2)
    at (Some z) e more (inl same) = (x, inl refl, e ∙ ap Some same)
    at (Some z) e more (inr j) = let m = more j in (m.0, inr m.1, m.2)

to_kept : {A B : Type 0} (f : A → Option B) (xs : List A) (x : A) (y : B) → Among x xs → f x ≡ Some y → Among y (filter_map f xs)
to_kept f [] x y i e = absurd i
to_kept {A} {B} f (z ∷ zs) x y i e = at (f z) refl (λ j. to_kept f zs x y j e) i
  where
    at : (o : Option B) → f z ≡ o → (Among x zs → Among y (filter_map f zs)) → (z ≡ x) ⊎ Among x zs → Among y (cons_option o (filter_map f zs))
    at None g more (inl same) = (let both : None ≡ Some y = sym g ∙ ap f same ∙ e in cc)
    at (Some w) g more (inl same) = (let both : Some w ≡ Some y = sym g ∙ ap f same ∙ e in let is : w ≡ y = cc in inl is)
    at None g more (inr j) = more j
    at (Some w) g more (inr j) = inr (more j)

mapped : {A B : Type 0} (f : A → B) (o : Option A) (y : B) → option_map f o ≡ Some y → (x : A) × (o ≡ Some x) × (f x ≡ y)
mapped f None y e = cc
mapped f (Some x) y e = (x, refl, cc)

nothing : {A : Type 0} (x : A) → (let o : Option A = None in o) ≡ Some x → ⊥
nothing x e = cc

-- ---- the children alone

not_asked : (labels : Labels) (by : By) (x : JobAsk) (job : ℕ) (living shut : Bool) → asked_by labels by x ≡ Some (asked.Child job living shut) → ⊥
not_asked labels by (ask.Cancel label) job living shut e = let m = mapped (asked.Cancel by) (job_at label labels) (asked.Child job living shut) e in let wrong = m.2 in cc
not_asked labels by (ask.Raise label kind severity note) job living shut e = let m = mapped (λ j. asked.Raise by j kind severity note) (job_at label labels) (asked.Child job living shut) e in let wrong = m.2 in cc
not_asked labels by (ask.Urge label urgency) job living shut e = let m = mapped (λ j. asked.Urgency by j urgency) (job_at label labels) (asked.Child job living shut) e in let wrong = m.2 in cc
not_asked labels by _ job living shut e = cc

not_asked_at : (labels : Labels) (by : By) (x : JobAsk) (s : Stage) (job : ℕ) (living shut : Bool) → asked_at labels by x s ≡ Some (asked.Child job living shut) → ⊥
not_asked_at labels by x stage.Waits job living shut e = not_asked labels by x job living shut e
not_asked_at labels by x (stage.Landed number) job living shut e = cc

-- what is true of children alone is true of the same of them, whatever commands are open
pub any_of_children : (v : CommandsValue) (id : ℕ) (p : Asked → Bool) → ((a : Asked) → p a ≡ true → is_child_of id a ≡ true) → list_any p (asked_of v) ≡ list_any p (all_children v.children)
any_of_children v id p only =
    list_any-append p of_rows (all_children v.children) ∙ ap (λ b. b || list_any p (all_children v.children)) (false_from_ne_true (list_any p of_rows) none)
  where
    of_rows : List Asked
    of_rows = filter_map (asked_in v.labels) v.rows

    no_child : (a : Asked) → Among a of_rows → is_child_of id a ≡ true → ⊥
    no_child (asked.Child job living shut) i t = let k = from_kept (asked_in v.labels) v.rows (asked.Child job living shut) i in not_asked_at v.labels k.0.by k.0.ask k.0.stage job living shut k.2
    no_child (asked.Cancel by job) i t = cc
    no_child (asked.Raise by job kind severity note) i t = cc
    no_child (asked.Urgency by job urgency) i t = cc

    none : list_any p of_rows ≡ true → ⊥
    none t = let f = any_from p of_rows t in no_child f.0 f.1 (only f.0 f.2)

pub children_alone : (v : CommandsValue) (id : ℕ) → has_child (asked_of v) id ≡ has_child (all_children v.children) id
children_alone v id = any_of_children v id (is_child_of id) (λ a t. t)

pub living_alone : (v : CommandsValue) (id : ℕ) → has_living_child (asked_of v) id ≡ has_living_child (all_children v.children) id
living_alone v id = any_of_children v id (λ a. is_child_of id a && is_living a) (λ a t. (and_parts (is_child_of id a) (is_living a) t).0)

-- ---- time

newest : (now : ℕ) (log : Log) → Among (latest ticked now log) (now ∷ filter_map ticked log)
newest now [] = inl refl
newest now (Ticked second ∷ log) = inr (newest second log)
newest now (Served m ∷ log) = newest now log
newest now (Issued other ∷ log) = newest now log
newest now (Replied other reply number ∷ log) = newest now log
newest now (Born job ∷ log) = newest now log
newest now (Gone job shut ∷ log) = newest now log
newest now (Fed other number first count ∷ log) = newest now log

open_now : (by : By) (now : ℕ) (log : Log) → is_issued by log ≡ true → Among (latest ticked now log) (seconds_from by now log)
open_now by now [] e = absurd (true≢false (sym e))
open_now by now (Issued other ∷ log) e = at (same_command by other) (open_now by now log) e
  where
    at : (b : Bool) → (is_issued by log ≡ true → Among (latest ticked now log) (seconds_from by now log)) → (b || is_issued by log) ≡ true
        → Among (latest ticked now log) (cond b (now ∷ filter_map ticked log) (seconds_from by now log))
    at true more e = newest now log
    at false more e = more e
open_now by now (Ticked second ∷ log) e = open_now by second log e
open_now by now (Served m ∷ log) e = open_now by now log e
open_now by now (Replied other reply number ∷ log) e = open_now by now log e
open_now by now (Born job ∷ log) e = open_now by now log e
open_now by now (Gone job shut ∷ log) e = open_now by now log e
open_now by now (Fed other number first count ∷ log) e = open_now by now log e

pub opens_now : (inst : Instance) (log : Log) (by : By) → IsOpen by log → Contains (seconds_open inst log by) (now_of inst log)
opens_now inst log by h = contains_from _ _ (open_now by inst.start log h.issued)

-- the second before a command is issued
open_at : (by : By) (now : ℕ) (log : Log) → is_issued by log ≡ true → Among (latest ticked now (before_issue by log)) (seconds_from by now log)
open_at by now [] e = absurd (true≢false (sym e))
open_at by now (Issued other ∷ log) e = at (same_command by other) (open_at by now log) e
  where
    at : (b : Bool) → (is_issued by log ≡ true → Among (latest ticked now (before_issue by log)) (seconds_from by now log)) → (b || is_issued by log) ≡ true
        → Among (latest ticked now (cond b [] (Issued other ∷ before_issue by log))) (cond b (now ∷ filter_map ticked log) (seconds_from by now log))
    at true more e = inl refl
    at false more e = more e
open_at by now (Ticked second ∷ log) e = open_at by second log e
open_at by now (Served m ∷ log) e = open_at by now log e
open_at by now (Replied other reply number ∷ log) e = open_at by now log e
open_at by now (Born job ∷ log) e = open_at by now log e
open_at by now (Gone job shut ∷ log) e = open_at by now log e
open_at by now (Fed other number first count ∷ log) e = open_at by now log e

pub opens_at_issue : (inst : Instance) (log : Log) (by : By) → IsOpen by log → Contains (seconds_open inst log by) (now_of inst (before_issue by log))
opens_at_issue inst log by h = contains_from _ _ (open_at by inst.start log h.issued)

-- ---- events

asked_cancel : (labels : Labels) (by : By) (x : JobAsk) (label : List ℕ) (job : ℕ) → told x ≡ rules.Cancel label → job_at label labels ≡ Some job → asked_by labels by x ≡ Some (asked.Cancel by job)
asked_cancel labels by (ask.Cancel l) label job e j = let same : l ≡ label = cc in ap (λ k. option_map (asked.Cancel by) (job_at k labels)) same ∙ ap (option_map (asked.Cancel by)) j
asked_cancel labels by _ label job e j = cc

asked_raise : (labels : Labels) (by : By) (x : JobAsk) (label kind : List ℕ) (severity : ℕ) (note : List ℕ) (job : ℕ) → told x ≡ rules.Raise label kind severity note → job_at label labels ≡ Some job → asked_by labels by x ≡ Some (asked.Raise by job kind severity note)
asked_raise labels by (ask.Raise l k s n) label kind severity note job e j =
    let l-is : l ≡ label = cc in
    let k-is : k ≡ kind = cc in
    let s-is : s ≡ severity = cc in
    let n-is : n ≡ note = cc in
    (λ i. option_map (λ id. asked.Raise by id (k-is i) (s-is i) (n-is i)) (job_at (l-is i) labels)) ∙ ap (option_map (λ id. asked.Raise by id kind severity note)) j
asked_raise labels by _ label kind severity note job e j = cc

asked_urge : (labels : Labels) (by : By) (x : JobAsk) (label : List ℕ) (urgency job : ℕ) → told x ≡ rules.Urge label urgency → job_at label labels ≡ Some job → asked_by labels by x ≡ Some (asked.Urgency by job urgency)
asked_urge labels by (ask.Urge l u) label urgency job e j =
    let l-is : l ≡ label = cc in
    let u-is : u ≡ urgency = cc in
    (λ i. option_map (λ id. asked.Urgency by id (u-is i)) (job_at (l-is i) labels)) ∙ ap (option_map (λ id. asked.Urgency by id urgency)) j
asked_urge labels by _ label urgency job e j = cc

same_ask : (inst : Instance) (a b : By) (x y : Asks) → inst.asks a ≡ Some x → inst.asks b ≡ Some y → a ≡ b → x ≡ y
same_ask inst a b x y ea eb same = let both : Some x ≡ Some y = sym ea ∙ ap inst.asks same ∙ eb in cc

within : (xs : List ℕ) (i : ℕ) → 0 < slice_index xs i → i < length xs
within [] i e = absurd (let none : 0 < 0 = e in omega arith)
within (x ∷ xs) zero e = omega arith
within (x ∷ xs) (suc i) e = let more = within xs i e in omega arith

abbrev back : NamedJob → Named
back n = record { scheme = n.scheme; label = n.label }

pub there_and_back : (ns : List NamedJob) → map named_of (map back ns) ≡ ns
there_and_back [] = refl
there_and_back (n ∷ ns) = ap (λ l. n ∷ l) (there_and_back ns)

module _ (v : CommandsValue) (inst : Instance) (log : Log) (h : AgreesCommands v inst log) where
  pending : (row : Row) → RowAgrees inst log row → is_decided row.by log ≡ false → IsPending row.by log
  pending row r e = record { waits = r.waits; undecided = e }

  asked_stands : (row : Row) → RowAgrees inst log row → (s : Stage) → StageAgrees log row.by row.ask s → (x : JobAsk) → inst.asks row.by ≡ Some (told x) → (a : Asked) → asked_at v.labels row.by x s ≡ Some a → StandsAsked inst log a
  asked_stands row r (stage.Landed number) t x e a is = cc
  asked_stands row r stage.Waits t (ask.Cancel label) e a is =
      let m = mapped (asked.Cancel row.by) (job_at label v.labels) a is in
      subst (StandsAsked inst log) m.2 (record { label = label; asks = e; pending = pending row r t; names = (h.labels label m.0).0 m.1 })
  asked_stands row r stage.Waits t (ask.Raise label kind severity note) e a is =
      let m = mapped (λ job. asked.Raise row.by job kind severity note) (job_at label v.labels) a is in
      subst (StandsAsked inst log) m.2 (record { label = label; asks = e; pending = pending row r t; names = (h.labels label m.0).0 m.1 })
  asked_stands row r stage.Waits t (ask.Urge label urgency) e a is =
      let m = mapped (λ job. asked.Urgency row.by job urgency) (job_at label v.labels) a is in
      subst (StandsAsked inst log) m.2 (record { label = label; asks = e; pending = pending row r t; names = (h.labels label m.0).0 m.1 })
  asked_stands row r stage.Waits t _ e a is = cc

  abbrev of_rows : List Asked
  of_rows = filter_map (asked_in v.labels) v.rows

  row_asked : (a : Asked) → Among a of_rows → StandsAsked inst log a
  row_asked a i =
      let k = from_kept (asked_in v.labels) v.rows a i in
      let r = h.rows k.0 (contains_from v.rows k.0 k.1) in
      asked_stands k.0 r k.0.stage r.staged k.0.ask r.asks a k.2

  child_asked : (a : Asked) → Among a (all_children v.children) → StandsAsked inst log a
  child_asked a i =
      let m = among_map asked_child v.children a i in
      subst (StandsAsked inst log) m.2 ((h.children m.0.job m.0.living m.0.shut).0 (contains_from v.children m.0 m.1))

  pub asked_true : (a : Asked) → Contains (asked_of v) a → StandsAsked inst log a
  asked_true a c = elim (among_append of_rows (all_children v.children) a (among_from (asked_of v) a c)) [
    | inl i ↦ row_asked a i
    | inr i ↦ child_asked a i
  ]

  -- a command that is undecided waits
  stage_waits : (row : Row) (s : Stage) → StageAgrees log row.by row.ask s → is_decided row.by log ≡ false → s ≡ stage.Waits
  stage_waits row stage.Waits t e = refl
  stage_waits row (stage.Landed number) t e = absurd (true≢false (sym t.0 ∙ e))

  -- the row of a command that waits
  record Waiting (by : By) (x : Asks) : Type 0 where
    row : Row
    known : Contains v.rows row
    named : row.by ≡ by
    agrees : RowAgrees inst log row
    stands : row.stage ≡ stage.Waits
    asks : told row.ask ≡ x

  waiting : (by : By) (y : JobAsk) → inst.asks by ≡ Some (told y) → IsPending by log → Waiting by (told y)
  waiting by y e p =
      let r = h.all by y e p.waits in
      let a = h.rows r.0 r.1 in
      record {
        row = r.0;
        known = r.1;
        named = r.2;
        agrees = a;
        stands = stage_waits r.0 r.0.stage a.staged (ap (λ b. is_decided b log) r.2 ∙ p.undecided);
        asks = same_ask inst r.0.by by (told r.0.ask) (told y) a.asks e r.2;
      }

  asked_at_it : (by : By) (x : Asks) (w : Waiting by x) (a : Asked) → asked_by v.labels w.row.by w.row.ask ≡ Some a → Contains (asked_of v) a
  asked_at_it by x w a e =
      contains_from (asked_of v) a (among_left of_rows (all_children v.children) a (to_kept (asked_in v.labels) v.rows w.row a (among_from v.rows w.row w.known) (ap (asked_at v.labels w.row.by w.row.ask) w.stands ∙ e)))

  pub asked_there : (a : Asked) → StandsAsked inst log a → Contains (asked_of v) a
  asked_there (asked.Cancel by job) s =
      let w = waiting by (ask.Cancel s.label) s.asks s.pending in
      asked_at_it by _ w _ (asked_cancel v.labels w.row.by w.row.ask s.label job w.asks ((h.labels s.label job).1 s.names) ∙ ap (λ b. Some (asked.Cancel b job)) w.named)
  asked_there (asked.Raise by job kind severity note) s =
      let w = waiting by (ask.Raise s.label kind severity note) s.asks s.pending in
      asked_at_it by _ w _ (asked_raise v.labels w.row.by w.row.ask s.label kind severity note job w.asks ((h.labels s.label job).1 s.names) ∙ ap (λ b. Some (asked.Raise b job kind severity note)) w.named)
  asked_there (asked.Urgency by job urgency) s =
      let w = waiting by (ask.Urge s.label urgency) s.asks s.pending in
      asked_at_it by _ w _ (asked_urge v.labels w.row.by w.row.ask s.label urgency job w.asks ((h.labels s.label job).1 s.names) ∙ ap (λ b. Some (asked.Urgency b job urgency)) w.named)
  asked_there (asked.Child job living shut) s =
      let c : Child = record { job = job; living = living; shut = shut } in
      contains_from (asked_of v) (asked.Child job living shut)
      (among_right of_rows (all_children v.children) (asked_child c) (among_mapped asked_child v.children c (among_from v.children c ((h.children job living shut).1 s))))

  -- what is asked of the children of a job is what the log tells
  pub children_stand : (job : ℕ) (living shut : Bool) → (Contains (asked_of v) (asked.Child job living shut) → child_of log job ≡ Some (living, shut)) × (child_of log job ≡ Some (living, shut) → Contains (asked_of v) (asked.Child job living shut))
  children_stand job living shut = (asked_true (asked.Child job living shut), asked_there (asked.Child job living shut))

  in_range : IsInstance inst → (a : Asked) → StandsAsked inst log a → IsAsked a
  in_range valid (asked.Cancel by job) s = (valid.asks by _ s.asks).0
  in_range valid (asked.Raise by job kind severity note) s = let r = valid.asks by _ s.asks in (r.0, r.1.0, r.1.1, r.1.2)
  in_range valid (asked.Urgency by job urgency) s = let r = valid.asks by _ s.asks in (r.0, r.1)
  in_range valid (asked.Child job living shut) s = tt

  pub asked_range : IsInstance inst → All IsAsked (asked_of v)
  asked_range valid = all_from IsAsked (asked_of v) (λ a i. in_range valid a (asked_true a (contains_from (asked_of v) a i)))

  -- ---- submissions

  abbrev submit_with : Row → ℕ → List ℕ → List Depend → posts.Submit
  submit_with row urgency text needs = record { by = row.by; rank = row.rank; urgency = urgency; needs = needs; text = text; seconds = seconds_open inst log row.by; issued = slice_index v.issued row.rank }

  needs_named : (named : List Named) (needs : List Depend) → needs_of v.labels named ≡ Some needs → AreNamed inst log (map named_of named) needs
  needs_named [] needs e = let is : [] ≡ needs = cc in subst (AreNamed inst log []) is tt
  needs_named (n ∷ named) needs e = at (job_at n.label v.labels) refl (λ more f. needs_named named more f) e
    where
      at : (o : Option ℕ) → job_at n.label v.labels ≡ o
          → ((more : List Depend) → needs_of v.labels named ≡ Some more → AreNamed inst log (map named_of named) more)
          → option_and_then (λ job. option_map (λ more. (let d : Depend = record { scheme = n.scheme; on = job } in d) ∷ more) (needs_of v.labels named)) o ≡ Some needs
          → AreNamed inst log (map named_of (n ∷ named)) needs
      at None j rest e = cc
      at (Some job) j rest e =
          let m = mapped (λ more. (let d : Depend = record { scheme = n.scheme; on = job } in d) ∷ more) (needs_of v.labels named) needs e in
          subst (AreNamed inst log (map named_of (n ∷ named))) m.2 (refl, (h.labels n.label job).0 j, rest m.0 m.1)

  named_needs : (named : List Named) (needs : List Depend) → AreNamed inst log (map named_of named) needs → needs_of v.labels named ≡ Some needs
  named_needs [] [] a = refl
  named_needs [] (d ∷ needs) a = absurd a
  named_needs (n ∷ named) [] a = absurd a
  named_needs (n ∷ named) (d ∷ needs) a =
      ap (option_and_then (λ job. option_map (λ more. (let x : Depend = record { scheme = n.scheme; on = job } in x) ∷ more) (needs_of v.labels named))) ((h.labels n.label d.on).1 a.1)
      ∙ ap (option_map (λ more. (let x : Depend = record { scheme = n.scheme; on = d.on } in x) ∷ more)) (named_needs named needs a.2)
      ∙ ap (λ s. Some ((let x : Depend = record { scheme = s; on = d.on } in x) ∷ needs)) (sym a.0)

  -- a submission that waits has a sequence number below the count of its broker, which is one
  at_broker : (row : Row) → Contains v.rows row → is_submit row ≡ true → row.rank < length v.issued
  at_broker row c w = let low = (h.drawn.rows row c w).below in within v.issued row.rank (omega arith)

  submit_stands : (row : Row) → Contains v.rows row → (s : Stage) → row.stage ≡ s → (x : JobAsk) → row.ask ≡ x → (given : posts.Submit) → submit_at v inst log row s ≡ Some given → StandsSubmitted inst log given
  submit_stands row c (stage.Landed number) is x same given e = cc
  submit_stands row c stage.Waits is (ask.Submit label urgency named text) same given e =
      let r = h.rows row c in
      let made : option_map (submit_with row urgency text) (needs_of v.labels named) ≡ Some given = sym (ap (submit_by v inst log row) same) ∙ e in
      let m = mapped (submit_with row urgency text) (needs_of v.labels named) given made in
      let waits : is_submit row ≡ true = ap₂ (λ s x. is_waiting s && is_submission (Some (told x))) is same in
      subst (StandsSubmitted inst log) m.2 (record {
        label = label;
        named = map named_of named;
        asks = r.asks ∙ ap (λ x. Some (told x)) same;
        pending = pending row r (subst (StageAgrees log row.by row.ask) is r.staged);
        needs = needs_named named m.0 m.1;
        rank = r.rank;
        seconds = refl;
        issued = h.issued row.rank (at_broker row c waits);
      })
  submit_stands row c stage.Waits is _ same given e = (let none : None ≡ Some given = sym (ap (submit_by v inst log row) same) ∙ e in cc)

  pub submits_true : (x : posts.Submit) → Contains (submits_of v inst log) x → StandsSubmitted inst log x
  submits_true x c =
      let k = from_kept (λ row. submit_at v inst log row row.stage) v.rows x (among_from (submits_of v inst log) x c) in
      submit_stands k.0 (contains_from v.rows k.0 k.1) k.0.stage refl k.0.ask refl x k.2

  submit_made : (row : Row) (given : posts.Submit) (label : List ℕ) (named : List NamedJob) (x : JobAsk) → told x ≡ Submit label given.urgency named given.text → AreNamed inst log named given.needs
      → row.by ≡ given.by → row.rank ≡ given.rank → seconds_open inst log row.by ≡ given.seconds → slice_index v.issued row.rank ≡ given.issued
      → submit_by v inst log row x ≡ Some given
  submit_made row given label named (ask.Submit l u ns t) e a b-is r-is s-is i-is =
      let u-is : u ≡ given.urgency = cc in
      let t-is : t ≡ given.text = cc in
      let ns-is : map named_of ns ≡ named = cc in
      let needs : needs_of v.labels ns ≡ Some given.needs = named_needs ns given.needs (subst (λ l. AreNamed inst log l given.needs) (sym ns-is) a) in
      ap (option_map (submit_with row u t)) needs
      ∙ (λ i. Some (let x : posts.Submit = record { by = b-is i; rank = r-is i; urgency = u-is i; needs = given.needs; text = t-is i; seconds = s-is i; issued = i-is i } in x))
  submit_made row given label named _ e a b-is r-is s-is i-is = cc

  pub submits_there : (x : posts.Submit) → StandsSubmitted inst log x → Contains (submits_of v inst log) x
  submits_there x s =
      let y : JobAsk = ask.Submit s.label x.urgency (map back s.named) x.text in
      let e : inst.asks x.by ≡ Some (told y) = s.asks ∙ ap (λ ns. Some (Submit s.label x.urgency ns x.text)) (sym (there_and_back s.named)) in
      let w = waiting x.by y e s.pending in
      let r-is : w.row.rank ≡ x.rank = w.agrees.rank ∙ ap inst.rank w.named ∙ sym s.rank in
      let told-is : told w.row.ask ≡ Submit s.label x.urgency s.named x.text = w.asks ∙ ap (λ ns. Submit s.label x.urgency ns x.text) (there_and_back s.named) in
      let counts : is_submit w.row ≡ true = ap₂ (λ t a. is_waiting t && is_submission (Some a)) w.stands told-is in
      let count-is : slice_index v.issued w.row.rank ≡ x.issued = h.issued w.row.rank (at_broker w.row w.known counts) ∙ ap (λ r. count_by (submits_at inst r) log) r-is ∙ sym s.issued in
      contains_from (submits_of v inst log) x (to_kept (λ row. submit_at v inst log row row.stage) v.rows w.row x (among_from v.rows w.row w.known)
      (ap (submit_at v inst log w.row) w.stands
      ∙ submit_made w.row x s.label s.named w.row.ask told-is s.needs w.named r-is (ap (seconds_open inst log) w.named ∙ sym s.seconds) count-is))

  pub desk_is : IsInstance inst → (st : Store) (jobs : List StoredJob) → AreJobsOf st jobs → IsDeskOf inst log st (desk_of v inst log jobs)
  desk_is valid st jobs are = record {
    now = refl;
    grant = refl;
    answer = refl;
    policy = refl;
    limits = refl;
    old = λ id. sym (none_old inst (r_text inst.grant) st id valid.text);
    birth = refl;
    jobs = are;
    asked = λ a. (asked_true a, asked_there a);
    submits = λ x. (submits_true x, submits_there x);
  }
