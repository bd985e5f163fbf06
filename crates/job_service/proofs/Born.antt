-- A job service when a child is born, and when one goes.
use Rattle.std.proofs.Common.{◌≡◌, ◌≢◌, ℕ, ◌-◌, ◌*◌, ◌^◌, ◌<◌, ◌≤◌, ◌==◌, inl, inr, List, [], ◌∷◌, ◌++◌, length, Bool, true, false, Option, Some, None, Contains, refl, sym, ap, ◌∙◌, subst, true≢false}
use Rattle.std.specs.Prelude.{◌&&◌, is_some, not}
use Rattle.std.specs.Option.{option_map_or}
use Rattle.std.specs.List.{AllByRecursion as Each}
use Rattle.std.proofs.lemmas.Bool.{and_parts, cases_eq, cond-false, eq-eqb, eqb-true, ne_eqb, not-true}
use Rattle.instance_rules.specs.Log.{Born, Gone, Instance, Log, Moment, child_of, service_of}
use Rattle.job_clock.proofs.Times.{in_time_as}
use Rattle.job_clock.specs.Targets.{AreInTime}
use Rattle.job_book.specs.Value.{BookValue}
use Rattle.job_commands.proofs.Children.{had_told, living_any, shut_told}
use Rattle.job_commands.proofs.Desks.{children_stand, living_alone}
use Rattle.job_commands.specs.Agrees.{AgreesCommands}
use Rattle.job_commands.specs.Children.{all_children, asked_child, is_living_of}
use Rattle.job_commands.specs.Desks.{asked_of}
use Rattle.job_commands.specs.Rows.{CommandsValue}
use Rattle.job_commands.specs.declared.child.Child.{Child}
use Rattle.job_manager.specs.Managed.{IsManaged}
use Rattle.job_manager.specs.Posts.{is_posted_for}
use Rattle.job_deeds.proofs.job_rules_proofs.Among.{among_from, among_mapped, any_at, any_from, contains_from}
use Rattle.kvs_core.specs.Agrees.{Agrees}
use Rattle.kvs_core.specs.Posted.{newest_of}
use Rattle.kvs_rules.specs.Answers.{IsLegalLog}
use Rattle.kvs_rules.specs.Namespaces.{newest_store, primary}
use Rattle.job_deeds.specs.manager_rules.Due.{IsEnding}
use Rattle.job_deeds.specs.manager_rules.Jobs.{StoredJob}
use Rattle.job_deeds.specs.manager_rules.Posts.{Does, Post, Submits}
use Rattle.job_deeds.specs.manager_rules.Scene.{has_living_child, has_shut_child, is_child_of}
use Rattle.job_service.specs.Agrees.{AgreesJobs}
use Rattle.job_service.specs.Children.{IsBearing, may_end}
use Rattle.job_service.specs.Due.{IsFoundBeside, LeavesChildOf, LeavesOpen}
use Rattle.job_service.specs.Posted.{IsNamed}
use Rattle.job_service.specs.Value.{JobServiceValue}
use Rattle.job_service.proofs.Bearing.{birth_there, may_parts, not_ending}
use Rattle.job_service.specs.Watching.{AreFed}
use Rattle.job_service.proofs.Feeding.{fed_kept}
use Rattle.job_service.proofs.Calls.{facts, joined, labelled_still, respan, spanned, with_parts}
use Rattle.job_service.proofs.Facts.{Facts, born_facts, born_service, gone_facts, gone_service}
use Rattle.job_service.proofs.Issuing.{StaysDue, owes_next}
use Rattle.job_service.proofs.Owing.{MadeAreDue, UnmadeAreNot}

-- ---- the children before

pub first_child : (v : CommandsValue) (book : BookValue) (job : ℕ) → IsBearing v book (Some job) → (c : Child) → Contains v.children c → c.job ≢ job
first_child v book job h c known same =
    true≢false (sym (any_at (is_child_of job) (all_children v.children) (asked_child c) (among_mapped asked_child v.children c (among_from v.children c known)) (eq-eqb job c.job (sym same))) ∙ h.0.first)

pub living_child : (v : JobServiceValue) (job : ℕ) (shut : Bool) → may_end v job shut ≡ true → (c : Child) × Contains v.commands.children c × (c.job ≡ job)
living_child v job shut may =
    let lives = (and_parts _ (has_living_child (asked_of v.commands) job) (may_parts v job shut may).1).1 in
    let f = any_from (is_living_of job) v.commands.children (living_any v.commands.children job ∙ sym (living_alone v.commands job) ∙ lives) in
    (f.0, contains_from v.commands.children f.0 f.1, eqb-true f.0.job job (and_parts f.0.living (f.0.job == job) f.2).1)

-- ---- other children change nothing else

abbrev with_children : CommandsValue → List Child → CommandsValue
with_children v children = record v { children = children }

pub named_as : (v : CommandsValue) (children : List Child) (birth : ℕ) (posted : Option Post) → IsNamed v birth posted → IsNamed (with_children v children) birth posted
named_as v children birth None h = tt
named_as v children birth (Some (Does due)) h = tt
named_as v children birth (Some (Submits x)) h = record { row = h.row; known = h.known; named = h.named; waits = h.waits; made = h.made }

pub timed_as : (v : CommandsValue) (children : List Child) (birth now span : ℕ) → AreInTime v birth now span → AreInTime (with_children v children) birth now span
timed_as v children birth now span h = in_time_as v (with_children v children) birth now span (λ target c. c) h

module _ (v : JobServiceValue) (inst : Instance) (log : Log) (a : AgreesJobs v inst log) where
  abbrev jobs : List StoredJob
  jobs = v.manager.book.jobs

  -- behind a moment about a child
  module _ (spent : Bool) (commands : CommandsValue) (moment : Moment) (f : Facts commands v.refused v.second inst (log ++ moment ∷ [])) (same : service_of (log ++ moment ∷ []) ≡ service_of log) (fed : AreFed v.feeds inst (log ++ moment ∷ []))
      (smalls : Each (λ j. j.id < 2 ^ 64) jobs) (soon : 1000 * (v.second - v.birth) < 2 ^ 40) (short : length commands.issued ≤ 32) (made-due : MadeAreDue) (unmade-not : UnmadeAreNot) (stays : StaysDue)
      (leaves : (post : Post) → v.manager.posted ≡ Some post → LeavesOpen moment post) (children : (post : Post) → v.manager.posted ≡ Some post → LeavesChildOf (asked_of v.commands) jobs moment post) where
    pub child_next : (later : Option Post) (bearing : Option ℕ) → IsFoundBeside v.terms v.manager.posted commands v.manager.book v.second v.birth later
        → AgreesJobs (spanned (with_parts v spent v.manager commands v.refused later v.submitted) v.span bearing) inst (log ++ moment ∷ [])
    child_next later bearing h =
        let labelled = labelled_still v.commands commands inst log moment jobs a.commands f.commands a.labelled in
        respan (with_parts v spent v.manager commands v.refused later v.submitted) inst (log ++ moment ∷ []) v.span bearing
        (joined v inst log a spent v.manager commands v.refused later v.submitted (log ++ moment ∷ []) fed a.kind.book
        (subst (Agrees v.manager.core inst.service) (sym same) a.core)
        (subst (IsLegalLog inst.service) (sym same) a.legal)
        labelled
        (owes_next v inst log a commands v.refused moment f labelled smalls soon short made-due unmade-not stays leaves children later h)
        f)

  module _ (m : IsManaged v.manager) (newest : newest_store inst.service (service_of log) primary ≡ Some (newest_of v.manager.core)) where
    -- a job that has had no child has had none that shut down
    no_shut : (o : Option (Bool × Bool)) → is_some o ≡ false → option_map_or (λ c. not c.0 && c.1) o false ≡ false
    no_shut None e = refl
    no_shut (Some c) e = absurd (true≢false e)

    never_shut : (job : ℕ) → IsBearing v.commands v.manager.book (Some job) → has_shut_child (asked_of v.commands) job ≡ false
    never_shut job h =
        let b = birth_there v inst log a job h.0 in
        let stand = children_stand v.commands inst log a.commands in
        shut_told (asked_of v.commands) log stand job ∙ no_shut (child_of log job) (sym (had_told (asked_of v.commands) log stand job) ∙ b.first)

    pub born_leaves : (job : ℕ) → IsBearing v.commands v.manager.book (Some job) → (post : Post) → LeavesChildOf (asked_of v.commands) jobs (Born job) post
    born_leaves job h (Submits x) = tt
    born_leaves job h (Does due) = elim (cases_eq due.job job) [
      | inl e ↦ inr (
        ap Born (sym e),
        λ ending. not_ending v inst log a m newest job h (subst (IsEnding jobs) e ending),
        ap (has_shut_child (asked_of v.commands)) e ∙ never_shut job h,
      )
      | inr other ↦ inl (cond-false (due.job == job) _ _ (ne_eqb due.job job other))
    ]

    pub gone_leaves : (job : ℕ) (shut : Bool) → may_end v job shut ≡ true → (post : Post) → v.manager.posted ≡ Some post → LeavesChildOf (asked_of v.commands) jobs (Gone job shut) post
    gone_leaves job shut may (Submits x) is = tt
    gone_leaves job shut may (Does due) is =
        let free : is_posted_for job v.manager.posted ≡ false = not-true (is_posted_for job v.manager.posted) (may_parts v job shut may).0 in
        let other : (due.job == job) ≡ false = ap (is_posted_for job) (sym is) ∙ free in
        inl (cond-false (due.job == job) _ _ other)

    module _ (spent : Bool) (smalls : Each (λ j. j.id < 2 ^ 64) jobs) (soon : 1000 * (v.second - v.birth) < 2 ^ 40) (made-due : MadeAreDue) (unmade-not : UnmadeAreNot) (stays : StaysDue) where
      pub born_agrees : (job : ℕ) → IsBearing v.commands v.manager.book (Some job) → (commands : CommandsValue) → length commands.issued ≤ 32 → AgreesCommands commands inst (log ++ Born job ∷ []) → (later : Option Post) (bearing : Option ℕ) → IsFoundBeside v.terms v.manager.posted commands v.manager.book v.second v.birth later
          → AgreesJobs (spanned (with_parts v spent v.manager commands v.refused later v.submitted) v.span bearing) inst (log ++ Born job ∷ [])
      born_agrees job h commands short agrees later bearing found =
          child_next spent commands (Born job) (born_facts v.commands commands v.refused v.second inst log (facts v inst log a) job agrees) (born_service log job) (fed_kept v.feeds inst log (Born job) (λ by. refl) (λ by. refl) a.fed) smalls soon short made-due unmade-not stays
          (λ post e by c. record { unanswered = refl; undecided = refl }) (λ post e. born_leaves job h post) later bearing found

      pub gone_agrees : (job : ℕ) (shut : Bool) → may_end v job shut ≡ true → (commands : CommandsValue) → length commands.issued ≤ 32 → AgreesCommands commands inst (log ++ Gone job shut ∷ []) → (later : Option Post) (bearing : Option ℕ) → IsFoundBeside v.terms v.manager.posted commands v.manager.book v.second v.birth later
          → AgreesJobs (spanned (with_parts v spent v.manager commands v.refused later v.submitted) v.span bearing) inst (log ++ Gone job shut ∷ [])
      gone_agrees job shut may commands short agrees later bearing found =
          child_next spent commands (Gone job shut) (gone_facts v.commands commands v.refused v.second inst log (facts v inst log a) job shut agrees) (gone_service log job shut) (fed_kept v.feeds inst log (Gone job shut) (λ by. refl) (λ by. refl) a.fed) smalls soon short made-due unmade-not stays
          (λ post e by c. record { unanswered = refl; undecided = refl }) (gone_leaves job shut may) later bearing found
