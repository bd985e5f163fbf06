-- A label names one job: that of the one line that submits it. So no birth has a label that another one has.
use Rattle.std.proofs.Common.{◌≡◌, ℕ, ◌<◌, ◌^◌, ◌==◌, inl, inr, List, [], ◌∷◌, ◌++◌, Bool, true, false, cond, Option, Some, None, is_some, option_map, refl, sym, ap, ap₂, ◌∙◌, subst, append-nil, append_assoc, true≢false, bytes_eq}
use Rattle.std.specs.Prelude.{find, unwrap_or}
use Rattle.std.specs.List.{cons_option, list_any}
use Rattle.std.proofs.lemmas.Bool.{eq-eqb, or_parts}
use Rattle.std.proofs.lemmas.List.Folds.{list_any-append}
use Rattle.job_rules.proofs.Among.{Among, among_from, each_at as each_among}
use Rattle.kvs_rules.specs.Sequence.{EachAfter, latest}
use Rattle.kvs_rules.proofs.Sequences.{each_at}
use Rattle.kvs_txn.specs.declared.txn.By.{By}
use Rattle.resource_set.proofs.Booleans.{same_name}
use Rattle.resource_set.specs.declared.node.Resources.{Resources}
use Rattle.manager_rules.specs.Jobs.{IsStored}
use Rattle.manager_rules.specs.Times.{IsBirthDue}
use Rattle.instance_rules.specs.Desks.{HasSubmitted, Names}
use Rattle.instance_rules.specs.Family.{Living, OfLiving}
use Rattle.instance_rules.specs.Log.{Born, Gone, Log, Moment, child_of, child_told}
use Rattle.workload.specs.Actors.{are_together}
use Rattle.workload.specs.Laws.{HasOwnLabels}
use Rattle.workload.specs.Tallies.{declares}
use Rattle.workload.specs.declared.work.Command.{Command}
use Rattle.workload.specs.declared.work.Workload.{Workload}
use Rattle.answers.specs.Chronicle.{Setup, top}
use Rattle.answers.specs.Commands.{command_at}
use Rattle.answers.specs.Jobs.{happenings_after, instance_of, log_in}
use Rattle.answers.specs.declared.chronicle.Entry.{Entry}
use Rattle.answers.specs.declared.chronicle.Entry.TheVariants as entry
use Rattle.run_laws.proofs.Once.{begins_one}
use Rattle.run_laws.proofs.Submits.{asks_submit, one_line, submitted_later}
use Rattle.hierarchy.specs.Births.{Birth, birth_in, birth_of, births, ends, is_at, is_birth_of, is_born, is_gone, label_of, lives}
use Rattle.hierarchy.specs.Families.{living_in}
use Rattle.hierarchy.specs.Growing.{GoesOn}
use Rattle.hierarchy.specs.Legal.{IsLegalBirth, IsLegalRunEntry}
use Rattle.hierarchy.specs.Own.{own_entry, own_of, only_if, setup_in}
use Rattle.hierarchy.proofs.Holding.{child_asked}
use Rattle.hierarchy.proofs.Members.{member, member_lives}
use Rattle.hierarchy.proofs.Nested.{happenings_joined}
use Rattle.hierarchy.proofs.OneEntry.{one_home}
use Rattle.hierarchy.proofs.Owning.{alive, born_kept, label_kept, lives_on, own_push, setup_kept}
use Rattle.hierarchy.proofs.Parts.{none_of_others}
use Rattle.hierarchy.proofs.Steps.{command_same}

-- ---- submissions

-- the submission of a label in an instance of the run is its one line there, by an actor of the instance
record IsSubmittedBy (set : Setup) (c : List Entry) (i : ℕ) (label : List ℕ) (by : By) : Type 0 where
  asked : Command
  named : command_at set.work by ≡ Some asked
  says : declares label asked ≡ true
  here : is_at set.work.actors (label_of c i) by.actor ≡ true

submitted_by : (set : Setup) (c : List Entry) (i : ℕ) (label : List ℕ) (id : ℕ) (log : Log) (n : Names (instance_of (setup_in set c i)) log label id) → IsSubmittedBy set c i label n.by
submitted_by set c i label id log n = by (is_at set.work.actors (label_of c i) n.by.actor) refl
  where
    s : (c2 : Command) × (command_at (setup_in set c i).work n.by ≡ Some c2) × (declares label c2 ≡ true)
    s = asks_submit (command_at (setup_in set c i).work n.by) label n.urgency n.needs n.text n.asks

    by : (b : Bool) → is_at set.work.actors (label_of c i) n.by.actor ≡ b → IsSubmittedBy set c i label n.by
    by true is = record { asked = s.0; named = sym (command_same set c i n.by is) ∙ s.1; says = s.2; here = is }
    by false is = let none = none_of_others set c i n.by is in let never : None ≡ Some s.0 = sym none ∙ s.1 in cc

-- ---- logs grow

-- a child that is told of stays told of
told_stays : (id : ℕ) (log : Log) (o : Option (Bool × Bool)) → is_some o ≡ true → is_some (latest (child_told id) o log) ≡ true
told_stays id [] o h = h
told_stays id (m ∷ log) o h = told_stays id log (unwrap_or (child_told id m) o) (of m)
  where
    at : (b : Bool) (told : Bool × Bool) → is_some (unwrap_or (cond b (Some (Some told)) None) o) ≡ true
    at true told = refl
    at false told = h

    of : (m : Moment) → is_some (unwrap_or (child_told id m) o) ≡ true
    of (Born job) = at (id == job) (true, false)
    of (Gone job shut) = at (id == job) (false, shut)
    of _ = h

latest_joined : (id : ℕ) (log more : Log) (o : Option (Bool × Bool)) → latest (child_told id) o (log ++ more) ≡ latest (child_told id) (latest (child_told id) o log) more
latest_joined id [] more o = refl
latest_joined id (m ∷ log) more o = latest_joined id log more (unwrap_or (child_told id m) o)

log_joined : (work : Workload) (own more : List Entry) → log_in work (own ++ more) ≡ log_in work own ++ happenings_after work own more
log_joined work own more = happenings_joined work [] own more

-- behind a birth, the child of the job is told of
born_told : (work : Workload) (own more : List Entry) (child job : ℕ) (label : List ℕ) (second : ℕ) (grant : Resources) → is_some (child_of (log_in work ((own ++ entry.Born child top job label second grant ∷ []) ++ more)) job) ≡ true
born_told work own more child job label second grant =
    let e : Entry = entry.Born child top job label second grant in
    let first : log_in work (own ++ e ∷ []) ≡ log_in work own ++ Born job ∷ [] = log_joined work own (e ∷ []) in
    let now : is_some (child_of (log_in work (own ++ e ∷ [])) job) ≡ true =
    ap (λ l. is_some (child_of l job)) first ∙ ap is_some (latest_joined job (log_in work own) (Born job ∷ []) None)
    ∙ ap (λ b. is_some (unwrap_or (cond b (Some (Some (true, false))) None) (child_of (log_in work own) job))) (eq-eqb job job refl) in
    ap (λ l. is_some (child_of l job)) (log_joined work (own ++ e ∷ []) more)
    ∙ ap is_some (latest_joined job (log_in work (own ++ e ∷ [])) (happenings_after work (own ++ e ∷ []) more) None)
    ∙ told_stays job (happenings_after work (own ++ e ∷ []) more) (child_of (log_in work (own ++ e ∷ [])) job) now

-- ---- own chronicles grow

record Grown (set : Setup) (c more : List Entry) (i : ℕ) : Type 0 where
  added : List Entry
  is : own_of set (c ++ more) i ≡ own_of set c i ++ added

own_grows : (set : Setup) (more c : List Entry) (i : ℕ) → lives c i ≡ true → list_any (ends i) more ≡ false → Grown set c more i
own_grows set [] c i h stays = record { added = []; is = ap (λ d. own_of set d i) (append-nil c) ∙ sym (append-nil (own_of set c i)) }
own_grows set (e ∷ more) c i h stays =
    let p = or_parts (ends i e) (list_any (ends i) more) stays in
    let o = own_entry set.work.actors (label_of c i) i e in
    let rest = own_grows set more (c ++ e ∷ []) i (lives_on c e i h p.0) p.1 in
    record {
      added = cons_option o [] ++ rest.added;
      is = ap (λ d. own_of set d i) (sym (append_assoc c (e ∷ []) more)) ∙ rest.is ∙ ap (λ l. l ++ rest.added) (own_push set c e i h p.0)
          ∙ append_assoc (own_of set c i) (cons_option o []) rest.added;
    }

-- ---- a birth that was

record WasBorn (c : List Entry) (b : Birth) : Type 0 where
  past : List Entry
  e : Entry
  more : List Entry
  split : c ≡ past ++ e ∷ more
  is : birth_in e ≡ Some b

was_born : (c : List Entry) (b : Birth) → Among b (births c) → WasBorn c b
was_born [] b there = absurd there
was_born (e ∷ c) b there = by (birth_in e) refl there (λ more. was_born c b more)
  where
    later : WasBorn c b → WasBorn (e ∷ c) b
    later w = record { past = e ∷ w.past; e = w.e; more = w.more; split = ap (λ l. e ∷ l) w.split; is = w.is }

    by : (o : Option Birth) → birth_in e ≡ o → Among b (cons_option o (births c)) → (Among b (births c) → WasBorn c b) → WasBorn (e ∷ c) b
    by None is there again = later (again there)
    by (Some x) is (inl same) again = record { past = []; e = e; more = c; split = refl; is = is ∙ ap Some same }
    by (Some x) is (inr there) again = later (again there)

found_there : (p : Birth → Bool) (bs : List Birth) (b : Birth) → find p bs ≡ Some b → Among b bs
found_there p [] b is = cc
found_there p (x ∷ bs) b is = by (p x) is (found_there p bs b)
  where
    by : (t : Bool) → cond t (Some x) (find p bs) ≡ Some b → (find p bs ≡ Some b → Among b bs) → Among b (x ∷ bs)
    by true is again = let same : x ≡ b = cc in inl same
    by false is again = inr (again is)

birth_there : (c : List Entry) (i : ℕ) (b : Birth) → birth_of c i ≡ Some b → Among b (births c)
birth_there c i b is = by (i == top) is
  where
    by : (t : Bool) → cond t None (find (is_birth_of i) (births c)) ≡ Some b → Among b (births c)
    by true is = let never : ◌≡◌ {A = Option Birth} None (Some b) = is in cc
    by false is = found_there (is_birth_of i) (births c) b is

-- a legal birth with the birth's own words
abbrev IsLegalAs : Setup → List Entry → Birth → Type 0
IsLegalAs set c b = IsLegalBirth set c b.child b.parent b.job b.label b.second b.grant

some_same : {A : Type 0} (x y : A) → Some x ≡ Some y → x ≡ y
some_same x y is = cc

none_born : (b : Birth) → ◌≡◌ {A = Option Birth} None (Some b) → ⊥
none_born b is = cc

birth_is : (e : Entry) (b : Birth) → birth_in e ≡ Some b → e ≡ entry.Born b.child b.parent b.job b.label b.second b.grant
birth_is (entry.Born child parent job label second grant) b is =
    let made : Birth = record { child = child; parent = parent; job = job; label = label; second = second; grant = grant } in
    ap (λ (x : Birth). entry.Born x.child x.parent x.job x.label x.second x.grant) (some_same made b is)
birth_is _ b is = absurd (none_born b is)

-- ---- a label is new

module _ (set : Setup) (c : List Entry) (on : GoesOn set c) (child parent job : ℕ) (label : List ℕ) (second : ℕ) (grant : Resources)
    (l : IsLegalBirth set c child parent job label second grant) (labels : HasOwnLabels set.work.lines) where
  here : lives c parent ≡ true
  here = member_lives set c l.due.living parent l.due.lives l.due.named

  living_is : l.due.living ≡ living_in set c parent
  living_is = (member set c l.due.living l.due.lives).is ∙ ap (living_in set c) l.due.named

  named_now : Names (instance_of (setup_in set c parent)) (log_in (setup_in set c parent).work (own_of set c parent)) label job
  named_now = subst (λ (x : Living). Names x.inst x.log label job) living_is l.labelled

  due_now : OfLiving (living_in set c parent) (λ desk. IsBirthDue desk.scene job)
  due_now = subst (λ x. OfLiving x (λ desk. IsBirthDue desk.scene job)) living_is l.due.due

  -- the id of the job is one of 64 bits
  small : job < 2 ^ 64
  small =
      let d = due_now.2 in
      let due = d.2 in
      let stored : IsStored due_now.0 due.j = each_among (IsStored due_now.0) d.0.scene.jobs due.j d.1.jobs.stored (among_from d.0.scene.jobs due.j due.known) in
      subst (λ n. n < 2 ^ 64) due.named stored.small

  -- an earlier birth for a job of this label, at its time
  module _ (past : List Entry) (b : Birth) (more : List Entry) (split : c ≡ past ++ entry.Born b.child b.parent b.job b.label b.second b.grant ∷ more) (was : IsLegalAs set past b) (same_label : b.label ≡ label) where
    abbrev e : Entry
    e = entry.Born b.child b.parent b.job b.label b.second b.grant

    there : lives past b.parent ≡ true
    there = member_lives set past was.due.living b.parent was.due.lives was.due.named

    was_is : was.due.living ≡ living_in set past b.parent
    was_is = (member set past was.due.living was.due.lives).is ∙ ap (living_in set past) was.due.named

    named_then : Names (instance_of (setup_in set past b.parent)) (log_in (setup_in set past b.parent).work (own_of set past b.parent)) label b.job
    named_then = subst (λ text. Names (instance_of (setup_in set past b.parent)) (log_in (setup_in set past b.parent).work (own_of set past b.parent)) text b.job) same_label
        (subst (λ (x : Living). Names x.inst x.log b.label b.job) was_is was.labelled)

    now : IsSubmittedBy set c parent label named_now.by
    now = submitted_by set c parent label job _ named_now

    then_ : IsSubmittedBy set past b.parent label named_then.by
    then_ = submitted_by set past b.parent label b.job _ named_then

    one : (named_then.by.actor ≡ named_now.by.actor) × (named_then.by.command ≡ named_now.by.command)
    one = one_line label set.work.lines labels named_then.by.actor named_then.by.command named_now.by.actor named_now.by.command then_.asked now.asked then_.named then_.says now.named now.says

    same_actor : named_then.by.actor ≡ named_now.by.actor
    same_actor = one.0

    same_by : named_then.by ≡ named_now.by
    same_by = ap₂ (λ (a k : ℕ). (let by : By = record { actor = a; command = k } in by)) one.0 one.1

    born_past : is_born past b.parent ≡ true
    born_past = (alive past b.parent there).0

    same_parent : b.parent ≡ parent
    same_parent = one_home set.work.actors c on.labelled b.parent parent named_then.by.actor
        (subst (λ d. is_born d b.parent ≡ true) (sym split) (born_kept past (e ∷ more) b.parent born_past)) (alive c parent here).0
        (subst (λ d. is_at set.work.actors (label_of d b.parent) named_then.by.actor ≡ true) (sym split) (ap (λ label. is_at set.work.actors label named_then.by.actor) (label_kept past (e ∷ more) b.parent born_past) ∙ then_.here))
        (ap (is_at set.work.actors (label_of c parent)) same_actor ∙ now.here)

    stays : list_any (ends parent) more ≡ false
    stays =
        let all : is_gone (past ++ e ∷ more) parent ≡ false = subst (λ d. is_gone d parent ≡ false) split (alive c parent here).1 in
        (or_parts (is_gone past parent) (list_any (ends parent) (e ∷ more)) (sym (list_any-append (ends parent) past (e ∷ more)) ∙ all)).1

    there_parent : lives past parent ≡ true
    there_parent = subst (λ n. lives past n ≡ true) same_parent there

    s : Setup
    s = setup_in set past parent

    setup_is : setup_in set c parent ≡ setup_in set past parent
    setup_is = ap (λ d. setup_in set d parent) split ∙ setup_kept set past (e ∷ more) parent (alive past parent there_parent).0

    grown : Grown set (past ++ e ∷ []) more parent
    grown = own_grows set more (past ++ e ∷ []) parent (lives_on past e parent there_parent refl) stays

    own_is : own_of set c parent ≡ (own_of set past parent ++ entry.Born b.child top b.job b.label b.second b.grant ∷ []) ++ grown.added
    own_is =
        ap (λ d. own_of set d parent) (split ∙ sym (append_assoc past (e ∷ []) more)) ∙ grown.is
        ∙ ap (λ l. l ++ grown.added) (own_push set past e parent there_parent refl
        ∙ ap (λ t. own_of set past parent ++ cons_option (only_if t (entry.Born b.child top b.job b.label b.second b.grant)) []) (eq-eqb b.parent parent same_parent))

    -- it was the same job
    same_job : b.job ≡ job
    same_job =
        let work = (setup_in set past parent).work in
        let mine = own_of set past parent in
        let added = entry.Born b.child top b.job b.label b.second b.grant ∷ grown.added in
        let old : HasSubmitted (log_in (setup_in set past parent).work (own_of set past parent)) named_then.by b.job =
        subst (λ n. HasSubmitted (log_in (setup_in set past n).work (own_of set past n)) named_then.by b.job) same_parent named_then.landed in
        let log_is : log_in (setup_in set c parent).work (own_of set c parent) ≡ log_in work mine ++ happenings_after work mine added =
        ap₂ (λ (x : Setup) (o : List Entry). log_in x.work o) setup_is (own_is ∙ append_assoc mine (entry.Born b.child top b.job b.label b.second b.grant ∷ []) grown.added) ∙ log_joined work mine added in
        let later : HasSubmitted (log_in (setup_in set c parent).work (own_of set c parent)) named_then.by b.job =
        subst (λ x. HasSubmitted x named_then.by b.job) (sym log_is) (submitted_later (log_in work mine) (happenings_after work mine added) named_then.by b.job old) in
        begins_one (setup_in set c parent) (own_of set c parent) (on.own parent here) named_now.by job b.job small named_now.landed (subst (λ x. HasSubmitted (log_in (setup_in set c parent).work (own_of set c parent)) x b.job) same_by later)

    told : is_some (child_of (log_in (setup_in set c parent).work (own_of set c parent)) job) ≡ true
    told =
        ap (λ o. is_some (child_of (log_in (setup_in set c parent).work o) job)) own_is
        ∙ ap (λ n. is_some (child_of (log_in (setup_in set c parent).work ((own_of set past parent ++ entry.Born b.child top b.job b.label b.second b.grant ∷ []) ++ grown.added)) n)) (sym same_job)
        ∙ born_told (setup_in set c parent).work (own_of set past parent) grown.added b.child b.job b.label b.second b.grant

    never : ⊥
    never = by (child_of (log_in (setup_in set c parent).work (own_of set c parent)) job) refl told
      where
        by : (o : Option (Bool × Bool)) → child_of (log_in (setup_in set c parent).work (own_of set c parent)) job ≡ o → is_some o ≡ true → ⊥
        by None is some = true≢false (sym some)
        by (Some x) is some =
            let d = due_now.2 in
            let asked = child_asked (instance_of (setup_in set c parent)) (log_in (setup_in set c parent).work (own_of set c parent)) due_now.0 d.0 d.1 job x.0 x.1 is in
            true≢false (sym asked ∙ d.2.first)

  pub new_label : (i : ℕ) → is_born c i ≡ true → are_together (label_of c i) (Some label) ≡ false
  new_label i born = by (birth_of c i) refl
    where
      apart : (b : Birth) → birth_of c i ≡ Some b → (t : Bool) → bytes_eq b.label label ≡ t → t ≡ false
      apart b is false no_one = refl
      apart b is true same =
          let w = was_born c b (birth_there c i b is) in
          let split = w.split ∙ ap (λ x. w.past ++ x ∷ w.more) (birth_is w.e b w.is) in
          let fits = each_at (IsLegalRunEntry set) w.past (entry.Born b.child b.parent b.job b.label b.second b.grant) w.more (subst (EachAfter (IsLegalRunEntry set) []) split on.run) in
          absurd (never w.past b w.more split fits.grounds (same_name b.label label same))

      by : (o : Option Birth) → birth_of c i ≡ o → are_together (option_map (λ b. b.label) o) (Some label) ≡ false
      by None is = refl
      by (Some b) is = apart b is (bytes_eq b.label label) refl
