-- The commands' table agrees with the log after a moment, an issue or an answer.
use Rattle.std.proofs.Common.{◌≡◌, ◌≢◌, ℕ, ◌+◌, ◌-◌, ◌<◌, ◌≤◌, ◌==◌, ◌&&◌, ◌||◌, ◌⊎◌, inl, inr, List, [], ◌∷◌, ◌++◌, length, map, Bool, true, false, cond, Option, Some, None, IsSome, Contains, refl, sym, ap, ◌∙◌, subst, true≢false, count_by, arith}
use Rattle.std.specs.Prelude.{filter, not, slice_index}
use Rattle.std.proofs.lemmas.Bool.{and_from, and_parts, cond-true, eq-eqb, eqb-true, or_from, or_right}
use Rattle.std.proofs.lemmas.List.Elements.{Contains-append_left, Contains-push, Contains-push_cases}
use Rattle.job_rules.proofs.Among.{among_from}
use Rattle.kvs_rules.proofs.Asking.{command_is}
use Rattle.kvs_rules.specs.Log.{same_command}
use Rattle.kvs_rules.specs.Sequence.{until}
use Rattle.kvs_txn.specs.declared.txn.By.{By}
use Rattle.kvs_rules.proofs.Stores.{any_push}
use Rattle.instance_rules.specs.Desks.{HasSubmitted, Names, is_submission, submits_at}
use Rattle.instance_rules.specs.Log as rules
use Rattle.instance_rules.specs.Log.{Instance, IsOpen, JobAsk as Asks, JobReply, Log, Moment, Born, Gone, Issued, Replied, Ticked, before_issue, is_decided, is_issued, is_replied, issues_now, now_of, replies_now}
use Rattle.job_commands.specs.Agrees.{AgreesCommands, HasRow, IsDrawn, RowAgrees, StageAgrees, WasDrawn}
use Rattle.job_commands.specs.Asks.{told}
use Rattle.job_commands.specs.Children.{AreChildrenOf, AreEnded, LeavesChildren, born_child, ended}
use Rattle.job_commands.specs.Moments.{IsAside, IsBeside, decides_now, groups_of}
use Rattle.job_commands.specs.Rows.{CommandsValue, is_of, is_submit, is_waiting, job_at, mark_at, mark_now, unmarked}
use Rattle.job_commands.specs.declared.ask.JobAsk.{JobAsk}
use Rattle.job_commands.specs.declared.ask.JobAsk.TheVariants as ask
use Rattle.job_commands.specs.declared.child.Child.{Child}
use Rattle.job_commands.specs.declared.row.Row.{Row}
use Rattle.job_commands.specs.declared.row.Stage.TheVariants as stage
use Rattle.job_commands.proofs.Children.{children_born, children_gone, children_left, ended_all, none_begun}
use Rattle.job_commands.proofs.Logs.{begun_before, count_push, decided_kept, differs, not_now, open_before, row_kept, same_self, submits_none, submitted_kept, undecided_kept}
use Rattle.job_commands.proofs.Marks.{IsMarked, drawn_kept, drawn_more, mark_count, mark_of, mark_same, mark_second}
use Rattle.job_commands.proofs.Tables.{IsCounted, drawn_fewer, drawn_still, from_forgotten, to_forgotten}

pub asks_some : (inst : Instance) (by : By) (a : Asks) → inst.asks by ≡ Some a → IsSome (inst.asks by)
asks_some inst by a e = subst IsSome (sym e) refl

-- ---- labels

pub names_kept : (inst : Instance) (log : Log) (m : Moment) (label : List ℕ) (id : ℕ) → Names inst log label id → Names inst (log ++ m ∷ []) label id
names_kept inst log m label id n = record { by = n.by; urgency = n.urgency; needs = n.needs; text = n.text; asks = n.asks; landed = submitted_kept log m n.by id n.landed }

submitted_before : (inst : Instance) (log : Log) (m : Moment) → IsBeside inst m → (by : By) (id : ℕ) → IsSome (inst.asks by) → HasSubmitted (log ++ m ∷ []) by id → HasSubmitted log by id
submitted_before inst log m beside by id some h = elim (begun_before log m by id h.0 h.1) [
  | inl old ↦ (h.0, old)
  | inr new ↦ absurd (not_now by id m (beside by some) new)
]

names_before : (inst : Instance) (log : Log) (m : Moment) → IsBeside inst m → (label : List ℕ) (id : ℕ) → Names inst (log ++ m ∷ []) label id → Names inst log label id
names_before inst log m beside label id n = record {
  by = n.by;
  urgency = n.urgency;
  needs = n.needs;
  text = n.text;
  asks = n.asks;
  landed = submitted_before inst log m beside n.by id (asks_some inst n.by _ n.asks) n.landed;
}

-- ---- a moment that is about no job command

-- with the children that the log has then
pub beside_table : (v : CommandsValue) (inst : Instance) (log : Log) (m : Moment) (children : List Child) → IsBeside inst m → AreChildrenOf children (log ++ m ∷ []) → AgreesCommands v inst log
    → AgreesCommands (record v { children = children }) inst (log ++ m ∷ [])
beside_table v inst log m children beside told h = record {
  labels = λ label id. (λ e. names_kept inst log m label id ((h.labels label id).0 e), λ n. (h.labels label id).1 (names_before inst log m beside label id n));
  rows = λ row c. let r = h.rows row c in row_kept inst log m row (beside row.by (asks_some inst row.by _ r.asks)) r;
  all = λ by asked e o. h.all by asked e (open_before by log m ((beside by (asks_some inst by _ e)).issues) o);
  issued = λ rank w. h.issued rank w ∙ sym (count_push inst rank log m ∙ ap (λ b. count_by (submits_at inst rank) log + cond b 1 0) (submits_none inst rank m (λ by some. (beside by some).issues)) ∙ omega arith);
  drawn = drawn_fewer v new (λ row c w. c) refl refl inst.birth (λ label id e. drawn_still v new (λ row c w. c) refl refl inst.birth id (h.drawn.used label id e)) h.drawn;
  children = told;
  decided = λ by id some begun. decided_kept by log m (h.decided by id some (submitted_before inst log m beside by id some begun));
}
  where
    new : CommandsValue
    new = record v { children = children }

pub beside_agrees : (v : CommandsValue) (inst : Instance) (log : Log) (m : Moment) → IsBeside inst m → LeavesChildren m → AgreesCommands v inst log → AgreesCommands v inst (log ++ m ∷ [])
beside_agrees v inst log m beside leaves h = beside_table v inst log m v.children beside (children_left v.children log m leaves h.children) h

-- ---- a birth and an end

unspoken : (inst : Instance) (m : Moment) → ((by : By) → issues_now by m ≡ false) → ((by : By) → replies_now by m ≡ false) → ((by : By) → decides_now by m ≡ false) → groups_of m ≡ [] → IsBeside inst m
unspoken inst m issues replies decides groups by some = record {
  issues = issues by;
  replies = replies by;
  decides = decides by;
  groups = λ group c. absurd (among_from [] group (subst (λ l. Contains l group) groups c));
}

pub birth_beside : (inst : Instance) (job : ℕ) → IsBeside inst (Born job)
birth_beside inst job = unspoken inst (Born job) (λ by. refl) (λ by. refl) (λ by. refl) refl

pub end_beside : (inst : Instance) (job : ℕ) (shut : Bool) → IsBeside inst (Gone job shut)
end_beside inst job shut = unspoken inst (Gone job shut) (λ by. refl) (λ by. refl) (λ by. refl) refl

pub born_agrees : (v : CommandsValue) (inst : Instance) (log : Log) (job : ℕ) → ((c : Child) → Contains v.children c → c.job ≢ job) → AgreesCommands v inst log
    → AgreesCommands (record v { children = v.children ++ born_child job ∷ [] }) inst (log ++ Born job ∷ [])
born_agrees v inst log job first h = beside_table v inst log (Born job) (v.children ++ born_child job ∷ []) (birth_beside inst job) (children_born v.children log job h.children first) h

pub gone_agrees : (v : CommandsValue) (inst : Instance) (log : Log) (job : ℕ) (shut : Bool) → ((c : Child) × Contains v.children c × (c.job ≡ job)) → AgreesCommands v inst log
    → AgreesCommands (record v { children = map (ended job shut) v.children }) inst (log ++ Gone job shut ∷ [])
gone_agrees v inst log job shut had h = beside_table v inst log (Gone job shut) (map (ended job shut) v.children) (end_beside inst job shut) (children_gone v.children log job shut h.children had) h

pub tick_beside : (inst : Instance) (second : ℕ) → IsBeside inst (Ticked second)
tick_beside inst second by some = record { issues = refl; replies = refl; decides = refl; groups = λ group c. absurd (among_from [] group c) }

-- the same table but for the children
same_table : (v new : CommandsValue) (children : List Child) → new.labels ≡ v.labels → new.rows ≡ v.rows → new.issued ≡ v.issued → new.marks ≡ v.marks → new.children ≡ children → record v { children = children } ≡ new
same_table v new children labels rows issued marks told =
    let as_labels = sym labels in
    let as_rows = sym rows in
    let as_issued = sym issued in
    let as_marks = sym marks in
    let as_told = sym told in
    λ i. (let w : CommandsValue = record { labels = as_labels i; rows = as_rows i; issued = as_issued i; marks = as_marks i; children = as_told i } in w)

pub born_as : (v new : CommandsValue) (inst : Instance) (log : Log) (job : ℕ) → new.labels ≡ v.labels → new.rows ≡ v.rows → new.issued ≡ v.issued → new.marks ≡ v.marks → new.children ≡ v.children ++ born_child job ∷ []
    → ((c : Child) → Contains v.children c → c.job ≢ job) → AgreesCommands v inst log → AgreesCommands new inst (log ++ Born job ∷ [])
born_as v new inst log job labels rows issued marks told first h =
    subst (λ w. AgreesCommands w inst (log ++ Born job ∷ [])) (same_table v new (v.children ++ born_child job ∷ []) labels rows issued marks told) (born_agrees v inst log job first h)

pub gone_as : (v new : CommandsValue) (inst : Instance) (log : Log) (job : ℕ) (shut : Bool) → new.labels ≡ v.labels → new.rows ≡ v.rows → new.issued ≡ v.issued → new.marks ≡ v.marks → AreEnded job shut v.children new.children
    → ((c : Child) × Contains v.children c × (c.job ≡ job)) → AgreesCommands v inst log → AgreesCommands new inst (log ++ Gone job shut ∷ [])
gone_as v new inst log job shut labels rows issued marks told had h =
    subst (λ w. AgreesCommands w inst (log ++ Gone job shut ∷ [])) (same_table v new (map (ended job shut) v.children) labels rows issued marks (ended_all job shut v.children new.children told)) (gone_agrees v inst log job shut had h)

pub gone_is : (v new : CommandsValue) (job : ℕ) (shut : Bool) → new.labels ≡ v.labels → new.rows ≡ v.rows → new.issued ≡ v.issued → new.marks ≡ v.marks → AreEnded job shut v.children new.children
    → new ≡ record v { children = map (ended job shut) v.children }
gone_is v new job shut labels rows issued marks told = sym (same_table v new (map (ended job shut) v.children) labels rows issued marks (ended_all job shut v.children new.children told))

-- ---- an answer

aside_reply : (by other : By) (reply : JobReply) (number : Option ℕ) → other ≢ by → IsAside other (Replied by reply number)
aside_reply by other reply number ne = record { issues = refl; replies = differs other by ne; decides = refl; groups = λ group c. absurd (among_from [] group c) }

module _ (v new : CommandsValue) (inst : Instance) (log : Log) (by : By) (reply : JobReply) (number : Option ℕ)
    (labels : new.labels ≡ v.labels) (rows : new.rows ≡ filter (λ row. not (is_of by row)) v.rows) (issued : new.issued ≡ v.issued)
    (marks : new.marks ≡ v.marks) (children : new.children ≡ v.children) (h : AgreesCommands v inst log) where
  abbrev replied : Moment
  replied = Replied by reply number

  kept : (row : Row) → Contains new.rows row → Contains v.rows row × (row.by ≢ by)
  kept row c = from_forgotten by v.rows row (subst (λ l. Contains l row) rows c)

  begun_same : (other : By) (id : ℕ) → HasSubmitted (log ++ replied ∷ []) other id → HasSubmitted log other id
  begun_same other id b = elim (begun_before log replied other id b.0 b.1) [
    | inl old ↦ (b.0, old)
    | inr now ↦ absurd (among_from [] now.group now.one)
  ]

  names_same : (label : List ℕ) (id : ℕ) → Names inst (log ++ replied ∷ []) label id → Names inst log label id
  names_same label id n = record { by = n.by; urgency = n.urgency; needs = n.needs; text = n.text; asks = n.asks; landed = begun_same n.by id n.landed }

  used : (label : List ℕ) (id : ℕ) → job_at label new.labels ≡ Some id → IsDrawn new inst.birth id
  used label id e = drawn_still v new (λ row c w. (kept row c).0) issued marks inst.birth id (h.drawn.used label id (sym (ap (job_at label) labels) ∙ e))

  not_answered : (other : By) → other ≡ by → is_replied other (log ++ replied ∷ []) ≡ false → ⊥
  not_answered other same quiet =
      let itself : same_command other by ≡ true = subst (λ b. same_command other b ≡ true) same (same_self other) in
      true≢false (sym (any_push (replies_now other) log replied ∙ or_right (is_replied other log) _ itself) ∙ quiet)

  all_rows : (other : By) (asked : JobAsk) → inst.asks other ≡ Some (told asked) → IsOpen other (log ++ replied ∷ []) → HasRow new other
  all_rows other asked e o =
      let row = h.all other asked e (open_before other log replied refl o) in
      (row.0, subst (λ l. Contains l row.0) (sym rows) (to_forgotten by v.rows row.0 row.1 (λ same. not_answered other (sym row.2 ∙ same) o.unanswered)), row.2)

  pub reply_agrees : AgreesCommands new inst (log ++ replied ∷ [])
  reply_agrees = record {
    labels = λ label id. (
      λ e. names_kept inst log replied label id ((h.labels label id).0 (sym (ap (job_at label) labels) ∙ e)),
      λ n. ap (job_at label) labels ∙ (h.labels label id).1 (names_same label id n),
    );
    rows = λ row c. let k = kept row c in row_kept inst log replied row (aside_reply by row.by reply number k.1) (h.rows row k.0);
    all = all_rows;
    issued = λ rank w. ap (λ l. slice_index l rank) issued ∙ h.issued rank (subst (λ l. rank < length l) issued w) ∙ sym (count_push inst rank log replied ∙ omega arith);
    drawn = drawn_fewer v new (λ row c w. (kept row c).0) issued marks inst.birth used h.drawn;
    children = subst (λ l. AreChildrenOf l (log ++ replied ∷ [])) (sym children) (children_left v.children log replied (λ job. refl) h.children);
    decided = λ other id some begun. decided_kept other log replied (h.decided other id some (begun_same other id begun));
  }

-- ---- the beginning

pub new_agrees : (v : CommandsValue) (inst : Instance) → v.labels ≡ [] → v.rows ≡ [] → v.children ≡ [] → ((k : ℕ) → slice_index v.issued k ≡ 0) → ((k : ℕ) → mark_at v.marks k ≡ unmarked) → AgreesCommands v inst []
new_agrees v inst labels rows childless zero unset = record {
  labels = λ label id. (λ e. (let none : None ≡ Some id = sym (ap (job_at label) labels) ∙ e in cc), λ n. absurd (among_from [] _ n.landed.1.landing));
  rows = λ row c. absurd (no_row row c);
  all = λ by asked e o. absurd (true≢false (sym o.issued));
  issued = λ rank w. zero rank;
  drawn = record {
    rows = λ row c w. absurd (no_row row c);
    apart = λ a b ca cb wa wb. absurd (no_row a ca);
    used = λ label id e. (let none : None ≡ Some id = sym (ap (job_at label) labels) ∙ e in cc);
    few = λ rank. let z = zero rank in omega arith;
    counts = λ rank. let none : (mark_at v.marks rank).count ≡ 0 = ap (λ m. m.count) (unset rank) in omega arith;
  };
  children = none_begun v.children childless;
  decided = λ by id some begun. absurd (among_from [] _ begun.1.landing);
}
  where
    no_row : (row : Row) → Contains v.rows row → ⊥
    no_row row c = among_from [] row (subst (λ l. Contains l row) rows c)

-- ---- an issue

-- before the command is issued stands the whole log
until_push : (by : By) (log : Log) → is_issued by log ≡ false → until (issues_now by) (log ++ Issued by ∷ []) ≡ log
until_push by [] e = cond-true (same_command by by) _ _ (same_self by)
until_push by (x ∷ xs) e = at (issues_now by x) (until_push by xs) e
  where
    at : (b : Bool) → (is_issued by xs ≡ false → until (issues_now by) (xs ++ Issued by ∷ []) ≡ xs) → (b || is_issued by xs) ≡ false → cond b [] (x ∷ until (issues_now by) (xs ++ Issued by ∷ [])) ≡ x ∷ xs
    at true more e = absurd (true≢false e)
    at false more e = ap (λ l. x ∷ l) (more e)

aside_issue : (by other : By) → other ≢ by → IsAside other (Issued by)
aside_issue by other ne = record { issues = differs other by ne; replies = refl; decides = refl; groups = λ group c. absurd (among_from [] group c) }

module _ (v new : CommandsValue) (row : Row) (inst : Instance) (log : Log)
    (labels : new.labels ≡ v.labels) (rows : new.rows ≡ v.rows ++ row ∷ []) (children : new.children ≡ v.children) (counted : IsCounted row v.issued new.issued)
    (marked : IsMarked row (mark_of v row) v.marks new.marks)
    (few : is_submission (Some (told row.ask)) ≡ true → slice_index v.issued row.rank < 1000) (later : is_submission (Some (told row.ask)) ≡ true → (mark_at v.marks row.rank).second ≤ row.issued)
    (sequence : row.sequence ≡ slice_index v.issued row.rank - (mark_of v row).count) (fresh : row.stage ≡ stage.Waits)
    (h : AgreesCommands v inst log) (asks : inst.asks row.by ≡ Some (told row.ask)) (rank_is : inst.rank row.by ≡ row.rank) (now : now_of inst log ≡ row.issued) (since : inst.birth ≤ row.issued)
    (unissued : is_issued row.by log ≡ false) (unanswered : is_replied row.by log ≡ false) (undecided : is_decided row.by log ≡ false) where
  abbrev issue : Moment
  issue = Issued row.by

  cases : (r : Row) → Contains new.rows r → Contains v.rows r ⊎ (row ≡ r)
  cases r c = Contains-push_cases v.rows row r (subst (λ l. Contains l r) rows c)

  old_row : (r : Row) → Contains v.rows r → Contains new.rows r
  old_row r c = subst (λ l. Contains l r) (sym rows) (Contains-append_left v.rows (row ∷ []) r c)

  new_row : Contains new.rows row
  new_row = subst (λ l. Contains l row) (sym rows) (Contains-push v.rows row)

  others : (r : Row) → Contains v.rows r → r.by ≢ row.by
  others r c same = true≢false (sym (h.rows r c).waits.issued ∙ ap (λ b. is_issued b log) same ∙ unissued)

  begun_old : (other : By) (id : ℕ) → HasSubmitted (log ++ issue ∷ []) other id → HasSubmitted log other id
  begun_old other id b = elim (begun_before log issue other id b.0 b.1) [
    | inl old ↦ (b.0, old)
    | inr now ↦ absurd (among_from [] now.group now.one)
  ]

  names_old : (label : List ℕ) (id : ℕ) → Names inst (log ++ issue ∷ []) label id → Names inst log label id
  names_old label id n = record { by = n.by; urgency = n.urgency; needs = n.needs; text = n.text; asks = n.asks; landed = begun_old n.by id n.landed }

  itself : RowAgrees inst (log ++ issue ∷ []) row
  itself = record {
    waits = record {
      issued = any_push (issues_now row.by) log issue ∙ or_right (is_issued row.by log) _ (same_self row.by);
      unanswered = any_push (replies_now row.by) log issue ∙ or_from (is_replied row.by log) _ unanswered refl;
    };
    asks = asks;
    rank = sym rank_is;
    issued = sym now ∙ sym (ap (now_of inst) (until_push row.by log unissued));
    staged = subst (StageAgrees (log ++ issue ∷ []) row.by row.ask) (sym fresh) (undecided_kept row.by log issue refl undecided);
  }

  row_agrees : (r : Row) → Contains new.rows r → RowAgrees inst (log ++ issue ∷ []) r
  row_agrees r c = elim (cases r c) [
    | inl old ↦ row_kept inst log issue r (aside_issue row.by r.by (others r old)) (h.rows r old)
    | inr same ↦ subst (RowAgrees inst (log ++ issue ∷ [])) same itself
  ]

  issued_all : (other : By) (asked : JobAsk) → inst.asks other ≡ Some (told asked) → IsOpen other (log ++ issue ∷ []) → HasRow new other
  issued_all other asked e o = at (same_command other row.by) refl
    where
      at : (b : Bool) → same_command other row.by ≡ b → HasRow new other
      at true t = (row, new_row, sym (command_is other row.by t))
      at false t = let r = h.all other asked e (open_before other log issue t o) in (r.0, old_row r.0 r.1, r.2)

  counted_at : (rank : ℕ) → submits_at inst rank issue ≡ ((row.rank == rank) && is_submission (Some (told row.ask)))
  counted_at rank = ap (λ r. (r == rank) && is_submission (inst.asks row.by)) rank_is ∙ ap (λ o. (row.rank == rank) && is_submission o) asks

  -- what was given out before was so still
  drawn_still_so : (rank second k : ℕ) → WasDrawn v inst.birth rank second k → WasDrawn new inst.birth rank second k
  drawn_still_so rank second k d = at (row.rank == rank) refl (is_submission (Some (told row.ask))) refl (counted.1 rank) (marked rank)
    where
      at : (b : Bool) → (row.rank == rank) ≡ b → (t : Bool) → is_submission (Some (told row.ask)) ≡ t → slice_index new.issued rank ≡ slice_index v.issued rank + cond (b && t) 1 0
          → mark_at new.marks rank ≡ cond (b && t) (mark_of v row) (mark_at v.marks rank) → WasDrawn new inst.birth rank second k
      at true same true sub count mark =
          let is : row.rank ≡ rank = eqb-true row.rank rank same in
          drawn_more v new inst.birth rank second k row.issued count
          (mark ∙ ap (λ r. mark_now (mark_at v.marks r) (slice_index v.issued r) row.issued) is)
          (subst (λ r. (mark_at v.marks r).second ≤ row.issued) is (later sub)) d
      at true same false sub count mark = drawn_kept v new inst.birth rank second k (count ∙ omega arith) mark d
      at false same t sub count mark = drawn_kept v new inst.birth rank second k (count ∙ omega arith) mark d

  submits : is_submit row ≡ true → is_submission (Some (told row.ask)) ≡ true
  submits w = (and_parts (is_waiting row.stage) _ w).1

  counts_it : is_submit row ≡ true → ((row.rank == row.rank) && is_submission (Some (told row.ask))) ≡ true
  counts_it w = and_from (row.rank == row.rank) _ (eq-eqb row.rank row.rank refl) (submits w)

  submit_counted : is_submit row ≡ true → slice_index new.issued row.rank ≡ slice_index v.issued row.rank + 1
  submit_counted w = counted.1 row.rank ∙ ap (λ b. slice_index v.issued row.rank + cond b 1 0) (counts_it w)

  submit_marked : is_submit row ≡ true → mark_at new.marks row.rank ≡ mark_of v row
  submit_marked w = marked row.rank ∙ ap (λ b. cond b (mark_of v row) (mark_at v.marks row.rank)) (counts_it w)

  -- no more were issued before the second than in all
  base : (mark_of v row).count ≤ slice_index v.issued row.rank
  base = mark_count (mark_at v.marks row.rank) (slice_index v.issued row.rank) row.issued (h.drawn.counts row.rank)

  given_out : is_submit row ≡ true → WasDrawn new inst.birth row.rank row.issued row.sequence
  given_out w =
      let count = submit_counted w in
      let mark = submit_marked w in
      let second : (mark_at new.marks row.rank).second ≡ row.issued = ap (λ m. m.second) mark ∙ mark_second (mark_at v.marks row.rank) (slice_index v.issued row.rank) row.issued in
      let before : (mark_at new.marks row.rank).count ≡ (mark_of v row).count = ap (λ m. m.count) mark in
      let s = sequence in
      let b = base in
      record {
        since = since;
        marked = omega (arith, second);
        below = omega (arith, count, s);
        within = λ e. omega (arith, count, before, s, b);
      }

  -- nothing was given out with the numbers of the new row
  fresh_number : is_submit row ≡ true → (rank second k : ℕ) → WasDrawn v inst.birth rank second k → row.rank ≡ rank → row.issued ≡ second → row.sequence ≡ k → ⊥
  fresh_number w rank second k d same at is =
      let old : WasDrawn v inst.birth row.rank row.issued row.sequence =
      subst (λ r. WasDrawn v inst.birth r row.issued row.sequence) (sym same)
      (subst (λ n. WasDrawn v inst.birth rank n row.sequence) (sym at) (subst (WasDrawn v inst.birth rank second) (sym is) d)) in
      let not_past = old.marked in
      let not_later = later (submits w) in
      let present : (mark_at v.marks row.rank).second ≡ row.issued = omega (arith, not_past, not_later) in
      let low = old.within (sym present) in
      let mark : (mark_of v row).count ≡ (mark_at v.marks row.rank).count = ap (λ m. m.count) (mark_same (mark_at v.marks row.rank) (slice_index v.issued row.rank) row.issued present) in
      let s = sequence in
      omega (arith, low, mark, s)

  -- what was drawn before was drawn in another second or with another sequence number
  drawn_past : (id : ℕ) → IsDrawn v inst.birth id → IsDrawn new inst.birth id
  drawn_past id d = record {
    rank = d.rank;
    second = d.second;
    sequence = d.sequence;
    made = d.made;
    drawn = drawn_still_so d.rank d.second d.sequence d.drawn;
    other = λ r c w e n s. elim (cases r c) [
      | inl old ↦ d.other r old w e n s
      | inr same ↦ fresh_number (ap is_submit same ∙ w) d.rank d.second d.sequence d.drawn (ap (λ x. x.rank) same ∙ e) (ap (λ x. x.issued) same ∙ n) (ap (λ x. x.sequence) same ∙ s)
    ];
  }

  rows_drawn : (r : Row) → Contains new.rows r → is_submit r ≡ true → WasDrawn new inst.birth r.rank r.issued r.sequence
  rows_drawn r c w = elim (cases r c) [
    | inl old ↦ drawn_still_so r.rank r.issued r.sequence (h.drawn.rows r old w)
    | inr same ↦ subst (λ x. WasDrawn new inst.birth x.rank x.issued x.sequence) same (given_out (ap is_submit same ∙ w))
  ]

  rows_apart : (a b : Row) → Contains new.rows a → Contains new.rows b → is_submit a ≡ true → is_submit b ≡ true → a.rank ≡ b.rank → a.issued ≡ b.issued → a.sequence ≡ b.sequence → a.by ≡ b.by
  rows_apart a b ca cb wa wb e n s = elim (cases a ca) [
    | inl olda ↦ elim (cases b cb) [
      | inl oldb ↦ h.drawn.apart a b olda oldb wa wb e n s
      | inr same ↦ absurd (fresh_number (ap is_submit same ∙ wb) a.rank a.issued a.sequence (h.drawn.rows a olda wa) (ap (λ x. x.rank) same ∙ sym e) (ap (λ x. x.issued) same ∙ sym n) (ap (λ x. x.sequence) same ∙ sym s))
    ]
    | inr same ↦ elim (cases b cb) [
      | inl oldb ↦ absurd (fresh_number (ap is_submit same ∙ wa) b.rank b.issued b.sequence (h.drawn.rows b oldb wb) (ap (λ x. x.rank) same ∙ e) (ap (λ x. x.issued) same ∙ n) (ap (λ x. x.sequence) same ∙ s))
      | inr too ↦ sym (ap (λ x. x.by) same) ∙ ap (λ x. x.by) too
    ]
  ]

  counts_still : (rank : ℕ) → (mark_at new.marks rank).count ≤ slice_index new.issued rank
  counts_still rank = at (row.rank == rank) refl (is_submission (Some (told row.ask))) (counted.1 rank) (marked rank)
    where
      at : (b : Bool) → (row.rank == rank) ≡ b → (t : Bool) → slice_index new.issued rank ≡ slice_index v.issued rank + cond (b && t) 1 0
          → mark_at new.marks rank ≡ cond (b && t) (mark_of v row) (mark_at v.marks rank) → (mark_at new.marks rank).count ≤ slice_index new.issued rank
      at true same true count mark =
          let low : (mark_of v row).count ≤ slice_index v.issued rank = subst (λ r. (mark_of v row).count ≤ slice_index v.issued r) (eqb-true row.rank rank same) base in
          let is : (mark_at new.marks rank).count ≡ (mark_of v row).count = ap (λ m. m.count) mark in
          omega (arith, count, low, is)
      at true same false count mark =
          let low = h.drawn.counts rank in
          let is : (mark_at new.marks rank).count ≡ (mark_at v.marks rank).count = ap (λ m. m.count) mark in
          omega (arith, count, low, is)
      at false same t count mark =
          let low = h.drawn.counts rank in
          let is : (mark_at new.marks rank).count ≡ (mark_at v.marks rank).count = ap (λ m. m.count) mark in
          omega (arith, count, low, is)

  few_still : (rank : ℕ) → slice_index new.issued rank ≤ 1024
  few_still rank = at (row.rank == rank) refl (is_submission (Some (told row.ask))) refl (counted.1 rank)
    where
      at : (b : Bool) → (row.rank == rank) ≡ b → (t : Bool) → is_submission (Some (told row.ask)) ≡ t → slice_index new.issued rank ≡ slice_index v.issued rank + cond (b && t) 1 0 → slice_index new.issued rank ≤ 1024
      at true same true sub e = let s : row.rank ≡ rank = eqb-true row.rank rank same in let f : slice_index v.issued rank < 1000 = subst (λ r. slice_index v.issued r < 1000) s (few sub) in omega arith
      at true same false sub e = let f = h.drawn.few rank in omega arith
      at false same t sub e = let f = h.drawn.few rank in omega arith

  pub issue_agrees : AgreesCommands new inst (log ++ issue ∷ [])
  issue_agrees = record {
    labels = λ label id. (
      λ e. names_kept inst log issue label id ((h.labels label id).0 (sym (ap (job_at label) labels) ∙ e)),
      λ n. ap (job_at label) labels ∙ (h.labels label id).1 (names_old label id n),
    );
    rows = row_agrees;
    all = issued_all;
    issued = λ rank w. counted.1 rank
        ∙ ap (λ n. n + cond ((row.rank == rank) && is_submission (Some (told row.ask))) 1 0) (h.issued rank (subst (λ n. rank < n) counted.0 w))
        ∙ sym (count_push inst rank log issue ∙ ap (λ b. count_by (submits_at inst rank) log + cond b 1 0) (counted_at rank));
    drawn = record {
      rows = rows_drawn;
      apart = rows_apart;
      used = λ label id e. drawn_past id (h.drawn.used label id (sym (ap (job_at label) labels) ∙ e));
      few = few_still;
      counts = counts_still;
    };
    children = subst (λ l. AreChildrenOf l (log ++ issue ∷ [])) (sym children) (children_left v.children log issue (λ job. refl) h.children);
    decided = λ other id some begun. decided_kept other log issue (h.decided other id some (begun_old other id begun));
  }

-- ---- the issue of a shutdown, which has no row

no_shutdown : (x : JobAsk) → told x ≡ rules.Shutdown → ⊥
no_shutdown (ask.Submit label urgency needs text) e = cc
no_shutdown (ask.Cancel label) e = cc
no_shutdown (ask.Raise label kind severity note) e = cc
no_shutdown (ask.Urge label urgency) e = cc
no_shutdown (ask.StateOf label) e = cc
no_shutdown (ask.Info label key) e = cc
no_shutdown ask.Jobs e = cc
no_shutdown (ask.Why label) e = cc
no_shutdown (ask.ResultOf label) e = cc
no_shutdown (ask.Watch label) e = cc
no_shutdown (ask.Advance seconds) e = cc

module _ (v : CommandsValue) (inst : Instance) (log : Log) (by : By) (asks : inst.asks by ≡ Some rules.Shutdown) (h : AgreesCommands v inst log) where
  abbrev shutdown : Moment
  shutdown = Issued by

  another : (other : By) (x : JobAsk) → inst.asks other ≡ Some (told x) → other ≢ by
  another other x e same =
      let both : Some (told x) ≡ Some rules.Shutdown = sym e ∙ ap inst.asks same ∙ asks in
      let is : told x ≡ rules.Shutdown = cc in
      no_shutdown x is

  begun_still : (other : By) (id : ℕ) → HasSubmitted (log ++ shutdown ∷ []) other id → HasSubmitted log other id
  begun_still other id b = elim (begun_before log shutdown other id b.0 b.1) [
    | inl old ↦ (b.0, old)
    | inr now ↦ absurd (among_from [] now.group now.one)
  ]

  names_still : (label : List ℕ) (id : ℕ) → Names inst (log ++ shutdown ∷ []) label id → Names inst log label id
  names_still label id n = record { by = n.by; urgency = n.urgency; needs = n.needs; text = n.text; asks = n.asks; landed = begun_still n.by id n.landed }

  no_count : (rank : ℕ) → submits_at inst rank shutdown ≡ false
  no_count rank = ap (λ o. (inst.rank by == rank) && is_submission o) asks ∙ none (inst.rank by == rank)
    where
      none : (b : Bool) → (b && false) ≡ false
      none true = refl
      none false = refl

  pub shutdown_agrees : AgreesCommands v inst (log ++ shutdown ∷ [])
  shutdown_agrees = record {
    labels = λ label id. (λ e. names_kept inst log shutdown label id ((h.labels label id).0 e), λ n. (h.labels label id).1 (names_still label id n));
    rows = λ row c. let r = h.rows row c in row_kept inst log shutdown row (aside_issue by row.by (another row.by row.ask r.asks)) r;
    all = λ other asked e o. h.all other asked e (open_before other log shutdown (differs other by (another other asked e)) o);
    issued = λ rank w. h.issued rank w ∙ sym (count_push inst rank log shutdown ∙ ap (λ b. count_by (submits_at inst rank) log + cond b 1 0) (no_count rank) ∙ omega arith);
    drawn = h.drawn;
    children = children_left v.children log shutdown (λ job. refl) h.children;
    decided = λ other id some begun. decided_kept other log shutdown (h.decided other id some (begun_still other id begun));
  }
