-- What an event makes of its job, and of what live jobs hold.
use Rattle.std.proofs.Common.{◌≡◌, ◌≢◌, ℕ, suc, zero, ◌+◌, ◌<◌, ◌≤◌, ◌==◌, Bool, true, false, cond, not, List, [], ◌∷◌, length, get_or, set, Option, Some, None, Result, Ok, Err, refl, sym, ap, ap₂, ◌∙◌, subst, arith, inl, inr}
use Rattle.std.specs.Prelude.{IsSome, option_and_then, option_map, if◌then◌else◌}
use Rattle.std.specs.List.{cons_option, list_any, AllByRecursion as Each}
use Rattle.std.specs.List.Sorted.{IsStrictlyIncreasing}
use Rattle.std.proofs.lemmas.Bool.{eq-eqb, eqb-true, ne_eqb, lt-ltb, le-ltb}
use Rattle.event_log.specs.declared.event.Event.{Event}
use Rattle.graph_match.proofs.Holds.{RiseFrom, rise_of}
use Rattle.graph_match.specs.Holds.{IsNew, with_hold, without_hold}
use Rattle.job_rules.proofs.Among.{Among, among_from, among_map, distinct_rising, same_image}
use Rattle.job_rules.specs.declared.hold.Hold.{Hold}
use Rattle.job_states.specs.Changes.{change_of}
use Rattle.job_states.specs.Replay.{allowed, stepped}
use Rattle.job_states.specs.Table.{changed, is_state, made, stands_in}
use Rattle.job_states.specs.declared.job.Change.{Change}
use Rattle.job_states.specs.declared.job.Change.TheVariants as change
use Rattle.job_states.specs.declared.job.Job.{Job}
use Rattle.job_states.specs.declared.job.State.{State}
use Rattle.job_states.specs.declared.job.State.TheVariants as state
use Rattle.resource_set.specs.Reading.{told}
use Rattle.resource_set.specs.declared.faults.RFault.{RFault}
use Rattle.resource_set.specs.declared.node.Resources.{Resources}
use Rattle.manager_rules.specs.declared.due.Due.{Due}
use Rattle.manager_rules.specs.Jobs.{StoredJob, ids_of, is_live, started_by}
use Rattle.manager_rules.specs.Posts.{event_done, held_after, job_after, r_after, with_event}
use Rattle.manager_rules.specs.Sound.{hold_of, holds_of}
use Rattle.job_deeds.specs.Landing.{IsNext, given_by, held_by, held_with, job_with}
use Rattle.job_deeds.specs.declared.landing.Held.TheVariants.{Nothing}
use Rattle.job_deeds.specs.declared.landing.Next.{Next}
use Rattle.job_deeds.proofs.Places.{rise_among}

-- ---- the job of the event

after_step : (job : Job) (event : Event) (next : Job) → stepped 0 job event ≡ Ok next → next ≡ job_after (change_of event) job
after_step job event next e = by (change_of event) e
  where
    at : (b : Bool) (c : Change) → allowed 0 (Some job.state) (if b then Some (made c job) else None) ≡ Ok next → next ≡ made c job
    at true c e = let same : made c job ≡ next = cc in sym same
    at false c e = cc

    by : (o : Option Change) → allowed 0 (Some job.state) (option_and_then (λ c. changed c job) o) ≡ Ok next → next ≡ job_after o job
    by None e = cc
    by (Some c) e = at (list_any (is_state job.state) (stands_in c job)) c e

held_is : (due : Due) (job : Job) (r : Option Resources) → held_with (held_by due job) r ≡ held_after due job r
held_is due job r = by (is_live job) due.r
  where
    of : (text : List ℕ) (found : Result Resources RFault) → told text ≡ found → held_with (given_by (Some text)) r ≡ r_after (Some text) r
    of text (Ok new) e = rw e refl
    of text (Err fault) e = rw e refl

    by : (b : Bool) (given : Option (List ℕ)) → held_with (if b then given_by given else Nothing) r ≡ (if b then r_after given r else None)
    by false given = refl
    by true None = refl
    by true (Some text) = of text (told text) refl

-- what the book does to a job is what the event does
pub done_is : (j : StoredJob) (due : Due) (next : Next) → IsNext j due next → job_with next j ≡ event_done due j
done_is j due next is =
    let r : held_with next.held j.r ≡ held_after due next.job j.r = ap (λ h. held_with h j.r) is.held ∙ held_is due next.job j.r in
    ap₂ (λ start held. record { id = j.id; spec = j.spec; needs = j.needs; job = next.job; start = start; r = held }) is.start r
    ∙ ap (λ job. record { id = j.id; spec = j.spec; needs = j.needs; job = job; start = started_by j.start due.event; r = held_after due job j.r }) is.job

-- a job that waits for resources after a change has a priority, if it had one before
pub made_ranked : (c : Change) (job : Job) → (job.state ≡ state.Sched → IsSome job.priority) → (made c job).state ≡ state.Sched → IsSome (made c job).priority
made_ranked (change.Submit userid urgency) job h e = cc
made_ranked change.Validate job h e = cc
made_ranked (change.AddDependency on) job h e = h e
made_ranked (change.RemoveDependency on) job h e = h e
made_ranked change.Depend job h e = cc
made_ranked (change.Prioritize priority) job h e = refl
made_ranked (change.Urge urgency) job h e = h e
made_ranked change.Alloc job h e = h (by job.state e)
  where
    by : (st : State) → (if is_state st state.Sched then state.Run else st) ≡ state.Sched → st ≡ state.Sched
    by state.New e = cc
    by state.Depend e = cc
    by state.Priority e = cc
    by state.Sched e = cc
    by state.Run e = cc
    by state.Cleanup e = cc
    by state.Inactive e = cc
made_ranked change.Restart job h e = cc
made_ranked change.Start job h e = h e
made_ranked (change.Finish status) job h e = cc
made_ranked (change.Except severity) job h e = h (by (severity == 0) e)
  where
    by : (b : Bool) → (if b then state.Cleanup else job.state) ≡ state.Sched → job.state ≡ state.Sched
    by true e = cc
    by false e = e
made_ranked (change.Release last) job h e = h e
made_ranked change.Free job h e = h e
made_ranked change.Clean job h e = cc

pub after_ranked : (o : Option Change) (job : Job) → (job.state ≡ state.Sched → IsSome job.priority) → (job_after o job).state ≡ state.Sched → IsSome (job_after o job).priority
after_ranked None job h e = h e
after_ranked (Some c) job h e = made_ranked c job h e

-- ---- all jobs

-- what holds of each job, and of that of the event afterwards, holds of each afterwards
pub each_after : (P : StoredJob → Type 0) (due : Due) (jobs : List StoredJob) → Each P jobs → ((k : StoredJob) → Among k jobs → k.id ≡ due.job → P (event_done due k)) → Each P (with_event due jobs)
each_after P due [] all own = tt
each_after P due (x ∷ xs) all own = (at (x.id == due.job) refl, each_after P due xs all.1 (λ k i. own k (inr i)))
  where
    at : (b : Bool) → (x.id == due.job) ≡ b → P (if b then event_done due x else x)
    at true e = own x (inl refl) (eqb-true x.id due.job e)
    at false e = all.0

untouched : (due : Due) (n : ℕ) (jobs : List StoredJob) → due.job < n → RiseFrom n (ids_of jobs) → with_event due jobs ≡ jobs
untouched due n [] h r = refl
untouched due n (x ∷ xs) h r =
    let other : x.id ≢ due.job = λ e. omega (arith, e, h, r.0) in
    ap₂ (λ y ys. y ∷ ys) (ap (λ b. if b then event_done due x else x) (ne_eqb x.id due.job other)) (untouched due (x.id + 1) xs (omega (arith, h, r.0)) r.1)

set_from : (due : Due) (n : ℕ) (jobs : List StoredJob) (at : ℕ) (d : StoredJob) → RiseFrom n (ids_of jobs) → at < length jobs → (get_or jobs at d).id ≡ due.job → set jobs at (event_done due (get_or jobs at d)) ≡ with_event due jobs
set_from due n [] at d r w e = let none : ⊥ = omega (arith, w) in absurd none
set_from due n (x ∷ xs) zero d r w e = ap₂ (λ y ys. y ∷ ys)
    (sym (ap (λ b. if b then event_done due x else x) (eq-eqb x.id due.job e)))
    (sym (untouched due (x.id + 1) xs (omega (arith, e)) r.1))
set_from due n (x ∷ xs) (suc at) d r w e =
    let within : at < length xs = omega (arith, w) in
    let above : x.id + 1 ≤ (get_or xs at d).id = rise_place (x.id + 1) xs at d r.1 within in
    let other : x.id ≢ due.job = λ f. omega (arith, f, e, above) in
    ap₂ (λ y ys. y ∷ ys)
    (sym (ap (λ b. if b then event_done due x else x) (ne_eqb x.id due.job other)))
    (set_from due (x.id + 1) xs at d r.1 within e)
  where
    rise_place : (n : ℕ) (jobs : List StoredJob) (at : ℕ) (d : StoredJob) → RiseFrom n (ids_of jobs) → at < length jobs → n ≤ (get_or jobs at d).id
    rise_place n [] at d r w = let none : ⊥ = omega (arith, w) in absurd none
    rise_place n (x ∷ xs) zero d r w = r.0
    rise_place n (x ∷ xs) (suc at) d r w = let more = rise_place (x.id + 1) xs at d r.1 (omega (arith, w)) in omega (arith, r.0, more)

-- the change of the job at its place
pub set_is : (due : Due) (jobs : List StoredJob) (at : ℕ) (d : StoredJob) → IsStrictlyIncreasing (ids_of jobs) → at < length jobs → (get_or jobs at d).id ≡ due.job → set jobs at (event_done due (get_or jobs at d)) ≡ with_event due jobs
set_is due jobs at d rising w e = set_from due 0 jobs at d (rise_of 0 (ids_of jobs) (λ w. omega arith) rising) w e

-- ---- what live jobs hold

hold_at : ℕ → Option Resources → Option Hold
hold_at id r = option_map (λ r. record { id = id; nodes = r.nodes }) r

pub holds_kept : (due : Due) (jobs : List StoredJob) → ((k : StoredJob) → Among k jobs → k.id ≡ due.job → (event_done due k).r ≡ k.r) → holds_of (with_event due jobs) ≡ holds_of jobs
unfolding hold_at
holds_kept due [] own = refl
holds_kept due (x ∷ xs) own = ap₂ cons_option (at (x.id == due.job) refl) (holds_kept due xs (λ k i. own k (inr i)))
  where
    at : (b : Bool) → (x.id == due.job) ≡ b → hold_of (if b then event_done due x else x) ≡ hold_of x
    at true e = ap (hold_at x.id) (own x (inl refl) (eqb-true x.id due.job e))
    at false e = refl

pub holds_less : (due : Due) (jobs : List StoredJob) → ((k : StoredJob) → Among k jobs → k.id ≡ due.job → (event_done due k).r ≡ None) → holds_of (with_event due jobs) ≡ without_hold due.job (holds_of jobs)
unfolding hold_at
holds_less due [] own = refl
holds_less due (x ∷ xs) own =
    ap (cons_option (hold_of (if x.id == due.job then event_done due x else x))) (holds_less due xs (λ k i. own k (inr i)))
    ∙ at (x.id == due.job) refl
  where
    rest : List Hold
    rest = without_hold due.job (holds_of xs)

    gone : (o : Option Resources) → (x.id == due.job) ≡ true → rest ≡ without_hold due.job (cons_option (hold_at x.id o) (holds_of xs))
    gone None e = refl
    gone (Some r) e = sym (ap (λ b. cond (not b) (record { id = x.id; nodes = r.nodes } ∷ rest) rest) e)

    left : (o : Option Resources) → (x.id == due.job) ≡ false → cons_option (hold_at x.id o) rest ≡ without_hold due.job (cons_option (hold_at x.id o) (holds_of xs))
    left None e = refl
    left (Some r) e = sym (ap (λ b. cond (not b) (record { id = x.id; nodes = r.nodes } ∷ rest) rest) e)

    at : (b : Bool) → (x.id == due.job) ≡ b → cons_option (hold_of (if b then event_done due x else x)) rest ≡ without_hold due.job (cons_option (hold_of x) (holds_of xs))
    at true e = ap (λ o. cons_option (hold_at x.id o) rest) (own x (inl refl) (eqb-true x.id due.job e)) ∙ gone x.r e
    at false e = left x.r e

-- a hold below all others stands first
first_hold : (hold : Hold) (n : ℕ) (jobs : List StoredJob) → hold.id < n → RiseFrom n (ids_of jobs) → with_hold hold (holds_of jobs) ≡ hold ∷ holds_of jobs
first_hold hold n [] h r = refl
first_hold hold n (x ∷ xs) h r = at (first_hold hold (x.id + 1) xs (omega (arith, h, r.0)) r.1) x.r
  where
    at : with_hold hold (holds_of xs) ≡ hold ∷ holds_of xs → (o : Option Resources) → with_hold hold (cons_option (option_map (λ r. record { id = x.id; nodes = r.nodes }) o) (holds_of xs)) ≡ hold ∷ cons_option (option_map (λ r. record { id = x.id; nodes = r.nodes }) o) (holds_of xs)
    at more None = more
    at more (Some held) = let first : Hold = record { id = x.id; nodes = held.nodes } in
        ap (λ b. cond b (hold ∷ first ∷ holds_of xs) (first ∷ with_hold hold (holds_of xs))) (lt-ltb hold.id x.id (omega (arith, h, r.0)))

more_from : (due : Due) (new : Resources) (n : ℕ) (jobs : List StoredJob) (j : StoredJob) → RiseFrom n (ids_of jobs) → Among j jobs → j.id ≡ due.job → j.r ≡ None → (event_done due j).r ≡ Some new → holds_of (with_event due jobs) ≡ with_hold (record { id = due.job; nodes = new.nodes }) (holds_of jobs)
more_from due new n [] j r i e none some = absurd i
more_from due new n (x ∷ xs) j r i e none some = elim i [
  | inl same ↦ own same
  | inr more ↦ other more (more_from due new (x.id + 1) xs j r.1 more e none some)
]
  where
    own : x ≡ j → holds_of (with_event due (x ∷ xs)) ≡ with_hold (record { id = due.job; nodes = new.nodes }) (holds_of (x ∷ xs))
    own same =
        let is : x.id ≡ due.job = ap (λ y. y.id) same ∙ e in
        let given : (event_done due x).r ≡ Some new = ap (λ y. (event_done due y).r) same ∙ some in
        let had : x.r ≡ None = ap (λ y. y.r) same ∙ none in
        let held : hold_of (event_done due x) ≡ Some (record { id = due.job; nodes = new.nodes }) =
        ap (option_map (λ r. record { id = x.id; nodes = r.nodes })) given ∙ ap (λ n. Some (record { id = n; nodes = new.nodes })) is in
        ap (λ b. cons_option (hold_of (if b then event_done due x else x)) (holds_of (with_event due xs))) (eq-eqb x.id due.job is)
        ∙ ap (λ o. cons_option o (holds_of (with_event due xs))) held
        ∙ ap (λ js. record { id = due.job; nodes = new.nodes } ∷ holds_of js) (untouched due (x.id + 1) xs (omega (arith, is)) r.1)
        ∙ sym (first_hold (record { id = due.job; nodes = new.nodes }) (x.id + 1) xs (omega (arith, is)) r.1)
        ∙ ap (λ o. with_hold (record { id = due.job; nodes = new.nodes }) (cons_option (option_map (λ r. record { id = x.id; nodes = r.nodes }) o) (holds_of xs))) (sym had)

    below : Among j xs → x.id < due.job
    below more = let h = rise_among (x.id + 1) xs r.1 j more in omega (arith, h, e)

    past : (o : Option Resources) → x.id < due.job → cons_option (option_map (λ r. record { id = x.id; nodes = r.nodes }) o) (with_hold (record { id = due.job; nodes = new.nodes }) (holds_of xs)) ≡ with_hold (record { id = due.job; nodes = new.nodes }) (cons_option (option_map (λ r. record { id = x.id; nodes = r.nodes }) o) (holds_of xs))
    past None h = refl
    past (Some r) h = let first : Hold = record { id = x.id; nodes = r.nodes } in
        sym (ap (λ b. cond b (record { id = due.job; nodes = new.nodes } ∷ first ∷ holds_of xs) (first ∷ with_hold (record { id = due.job; nodes = new.nodes }) (holds_of xs))) (le-ltb due.job x.id (omega (arith, h))))

    other : Among j xs → holds_of (with_event due xs) ≡ with_hold (record { id = due.job; nodes = new.nodes }) (holds_of xs) → holds_of (with_event due (x ∷ xs)) ≡ with_hold (record { id = due.job; nodes = new.nodes }) (holds_of (x ∷ xs))
    other more rest =
        let differ : x.id ≢ due.job = λ f. omega (arith, f, below more) in
        ap (λ b. cons_option (hold_of (if b then event_done due x else x)) (holds_of (with_event due xs))) (ne_eqb x.id due.job differ)
        ∙ ap (cons_option (hold_of x)) rest
        ∙ past x.r (below more)

pub holds_more : (due : Due) (new : Resources) (jobs : List StoredJob) (j : StoredJob) → IsStrictlyIncreasing (ids_of jobs) → Among j jobs → j.id ≡ due.job → j.r ≡ None → (event_done due j).r ≡ Some new → holds_of (with_event due jobs) ≡ with_hold (record { id = due.job; nodes = new.nodes }) (holds_of jobs)
holds_more due new jobs j rising i e none some = more_from due new 0 jobs j (rise_of 0 (ids_of jobs) (λ w. omega arith) rising) i e none some

-- a job without resources holds nothing
held_by_one : (jobs : List StoredJob) (h : Hold) → Among h (holds_of jobs) → (k : StoredJob) × Among k jobs × (k.id ≡ h.id) × IsSome k.r
held_by_one [] h i = absurd i
held_by_one (x ∷ xs) h i = at (λ later. held_by_one xs h later) x.r refl i
  where
    at : (Among h (holds_of xs) → (k : StoredJob) × Among k xs × (k.id ≡ h.id) × IsSome k.r) → (o : Option Resources) → x.r ≡ o → Among h (cons_option (option_map (λ r. record { id = x.id; nodes = r.nodes }) o) (holds_of xs)) → (k : StoredJob) × Among k (x ∷ xs) × (k.id ≡ h.id) × IsSome k.r
    at later None e i = let found = later i in (found.0, inr found.1, found.2, found.3)
    at later (Some r) e i = elim i [
      | inl same ↦ (x, inl refl, ap (λ y. y.id) same, subst IsSome (sym e) refl)
      | inr more ↦ let found = later more in (found.0, inr found.1, found.2, found.3)
    ]

pub not_held : (jobs : List StoredJob) (j : StoredJob) → IsStrictlyIncreasing (ids_of jobs) → Among j jobs → j.r ≡ None → IsNew j.id (holds_of jobs)
not_held jobs j rising i none c =
    let hit = among_map (λ h. h.id) (holds_of jobs) j.id (among_from _ j.id c) in
    let found = held_by_one jobs hit.0 hit.1 in
    let same : found.0 ≡ j = same_image (λ k. k.id) jobs found.0 j (distinct_rising (ids_of jobs) rising) found.1 i (found.2 ∙ hit.2) in
    let some : IsSome j.r = subst (λ k. IsSome k.r) same found.3 in
    none_some j.r none some
  where
    none_some : (o : Option Resources) → o ≡ None → IsSome o → ⊥
    none_some None e some = cc
    none_some (Some r) e some = cc

pub next_is : (j : StoredJob) (due : Due) (next : Next) → stepped 0 j.job due.event ≡ Ok next.job → next.start ≡ started_by j.start due.event → next.held ≡ held_by due next.job → IsNext j due next
next_is j due next steps start held = record { job = after_step j.job due.event next.job steps; start = start; held = held }
