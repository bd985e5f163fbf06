-- Where nothing is due, what live jobs hold is held now and ends at seconds ahead: so time goes on at
-- most to the second that is reserved for the first in the queue.
use Rattle.std.proofs.Common.{◌≡◌, ◌≢◌, ℕ, zero, suc, ◌<◌, ◌≤◌, ◌^◌, ◌⊎◌, inl, inr, Bool, true, false, ◌||◌, not, List, [], ◌∷◌, ◌++◌, Option, Some, None, Ok, refl, sym, ap, ap₂, ◌∙◌, subst, arith, true≢false}
use Rattle.std.specs.Prelude.{◌==◌, nat_lt, Contains, All, IsSomeAnd, option_and_then, option_map, flat_map, if◌then◌else◌}
use Rattle.std.specs.List.{cons_option, AllByRecursion as Each}
use Rattle.std.specs.Option.{option_map_or}
use Rattle.std.proofs.lemmas.Bool.{and_parts, cases_lt, lt-ltb, le-ltb}
use Rattle.std.proofs.lemmas.Bool.Decides.{nat_tests}
use Rattle.job_rules.specs.declared.hold.Hold.{Hold}
use Rattle.job_rules.specs.Fits.{AreWithin, CanFit, IsGrant, IsSpec, end_of, first_fit, free_of, nodes_of, sooner}
use Rattle.job_rules.specs.Worths.{wanted}
use Rattle.job_rules.proofs.Among.{Among, all_at, among_flattened, among_from, among_kept, among_right, contains_from, each_at}
use Rattle.job_rules.proofs.Counts.{enough}
use Rattle.job_rules.proofs.Sets.{free_is, none_exactly}
use Rattle.job_spec.specs.declared.spec.JobSpec.{JobSpec}
use Rattle.job_states.specs.declared.job.State.{State}
use Rattle.job_states.specs.declared.job.State.TheVariants as state
use Rattle.job_states.specs.Table.{is_state}
use Rattle.graph_match.proofs.Fitting.{picks_within}
use Rattle.resource_set.specs.Reading.{told}
use Rattle.resource_set.specs.Writing.{r_text}
use Rattle.resource_set.specs.declared.node.Node.{Node}
use Rattle.resource_set.specs.declared.node.Resources.{Resources}
use Rattle.manager_rules.specs.Deeds.{Deed, Takes, Starts, Finishes, Expires, Stops, Releases, Frees, due_of}
use Rattle.manager_rules.specs.Dependencies.{IsHead}
use Rattle.manager_rules.specs.Due.{IsDue, IsOver as EndsBy, MayDo, status_now}
use Rattle.manager_rules.specs.declared.due.Due.{Due}
use Rattle.manager_rules.specs.Jobs.{StoredJob, is_live}
use Rattle.manager_rules.specs.Reserved.{FitsAt, IsReserved, held_by, hold_at, holds_at, is_held_at}
use Rattle.manager_rules.specs.Scene.{Scene, has_living_child}
use Rattle.manager_rules.specs.Sound.{AreInTime, HoldsInTime, IsUnserved, hold_of, holds_of, is_early}
use Rattle.manager_rules.specs.Times.{IsEndDue, command_seconds, expiry_seconds, seconds_ahead, seconds_of}
use Rattle.manager_rules.proofs.Rules.{same_job}
use Rattle.run_laws.proofs.Heads.{head_waits}
use Rattle.run_laws.proofs.Over.{IsOver}

-- the text of the resources that first fit finds in a grant tells them (Flux RFC 20)
abbrev pub TellsWhatFits : Resources → Type 0
TellsWhatFits grant = (spec : JobSpec) (holds : List Hold) (now : ℕ) (r : Resources) → now < 2 ^ 64 → first_fit spec grant.nodes (free_of grant.nodes holds) ≡ Some r.nodes
    → r.starttime ≡ now → r.expiration ≡ sooner (end_of spec now) grant.expiration → told (r_text r) ≡ Ok r

-- ---- seconds at which resources are held

not_zero : (n : ℕ) → (suc n == 0) ≡ false
not_zero n = grind (arith, nat_tests)

-- they end at the next second, or are held at both or neither
ends_next : (p : ℕ) (r : Resources) → (r.expiration ≡ suc p) ⊎ (is_held_at p r ≡ is_held_at (suc p) r)
ends_next p r = elim (cases_lt p r.expiration) [
  | inl up ↦ elim (cases_lt (suc p) r.expiration) [
    | inl more ↦ inr (ap (λ b. (r.expiration == 0) || b) (lt-ltb p r.expiration up ∙ sym (lt-ltb (suc p) r.expiration more)))
    | inr last ↦ inl (omega (arith, up, last))
  ]
  | inr down ↦ inr (ap (λ b. (r.expiration == 0) || b) (le-ltb p r.expiration down ∙ sym (le-ltb (suc p) r.expiration (omega (arith, down)))))
]

-- a job whose resources end at a second
pub record EndsAt (jobs : List StoredJob) (second : ℕ) : Type 0 where
  pub j : StoredJob
  pub known : Among j jobs
  pub r : Resources
  pub held : j.r ≡ Some r
  pub ends : r.expiration ≡ second

some_ends : (p : ℕ) (jobs : List StoredJob) → EndsAt jobs (suc p) ⊎ (holds_at p jobs ≡ holds_at (suc p) jobs)
some_ends p [] = inr refl
some_ends p (k ∷ jobs) = by k.r refl (some_ends p jobs)
  where
    more : EndsAt jobs (suc p) → EndsAt (k ∷ jobs) (suc p)
    more e = record { j = e.j; known = inr e.known; r = e.r; held = e.held; ends = e.ends }

    same : hold_at p k ≡ hold_at (suc p) k → EndsAt jobs (suc p) ⊎ (holds_at p jobs ≡ holds_at (suc p) jobs) → EndsAt (k ∷ jobs) (suc p) ⊎ (holds_at p (k ∷ jobs) ≡ holds_at (suc p) (k ∷ jobs))
    same e (inl m) = inl (more m)
    same e (inr f) = inr (ap₂ cons_option e f)

    by : (o : Option Resources) → k.r ≡ o → EndsAt jobs (suc p) ⊎ (holds_at p jobs ≡ holds_at (suc p) jobs) → EndsAt (k ∷ jobs) (suc p) ⊎ (holds_at p (k ∷ jobs) ≡ holds_at (suc p) (k ∷ jobs))
    by None is rest = same (rw is refl) rest
    by (Some r) is rest = elim (ends_next p r) [
      | inl e ↦ inl (record { j = k; known = inl refl; r = r; held = is; ends = e })
      | inr e ↦ same (ap (λ o. option_and_then (held_by p k.id) o) is ∙ ap (λ b. if b then Some (record { id = k.id; nodes = r.nodes }) else None) e ∙ sym (ap (λ o. option_and_then (held_by (suc p) k.id) o) is)) rest
    ]

-- where all is held now, that is what is held
held_now : (now : ℕ) (jobs : List StoredJob) → ((j : StoredJob) (r : Resources) → Among j jobs → j.r ≡ Some r → is_held_at now r ≡ true) → holds_at now jobs ≡ holds_of jobs
held_now now [] h = refl
held_now now (k ∷ jobs) h = ap₂ cons_option (by k.r refl) (held_now now jobs (λ j r i e. h j r (inr i) e))
  where
    by : (o : Option Resources) → k.r ≡ o → hold_at now k ≡ hold_of k
    by None is = rw is refl
    by (Some r) is =
        ap (λ o. option_and_then (held_by now k.id) o) is
        ∙ ap (λ b. if b then Some (record { id = k.id; nodes = r.nodes }) else None) (h k r (inl refl) is)
        ∙ sym (ap (λ o. option_map (λ (r : Resources). let x : Hold = record { id = k.id; nodes = r.nodes } in x) o) is)

-- ---- where nothing is due

module _ (s : Scene) (idle : (due : Due) → IsDue s due → ⊥) (stays : (id : ℕ) → IsEndDue s ⊥ id → ⊥) (times : AreInTime s.jobs) (over : Each IsOver s.jobs) where
  nothing : (j : StoredJob) → Contains s.jobs j → (deed : Deed) → MayDo s j deed → ⊥
  nothing j known deed may = idle (due_of s.now j deed) (record { j = j; known = known; deed = deed; may = may; is = refl })

  -- a job that holds resources runs, and holds them now
  pub record IsRunning (j : StoredJob) (r : Resources) : Type 0 where
    pub runs : j.job.state ≡ state.Run
    pub held : is_held_at s.now r ≡ true

  module _ (j : StoredJob) (known : Contains s.jobs j) (r : Resources) (holds : j.r ≡ Some r) where
    own : HoldsInTime j
    own = each_at HoldsInTime s.jobs j times.each (among_from s.jobs j known)

    live : is_live j.job ≡ true
    live = by (is_live j.job) refl
      where
        by : (b : Bool) → is_live j.job ≡ b → b ≡ true
        by true e = refl
        by false e = let none : Some r ≡ None = sym holds ∙ own.none e in cc

    allocated : j.job.allocated ≡ true
    allocated = (and_parts j.job.allocated (not j.job.freed) live).0

    kept : j.job.freed ≡ false
    kept = by j.job.freed (and_parts j.job.allocated (not j.job.freed) live).1
      where
        by : (b : Bool) → not b ≡ true → b ≡ false
        by true e = absurd (true≢false (sym e))
        by false e = refl

    served : IsUnserved j.job → ⊥
    served u = true≢false (sym allocated ∙ u.allocated)

    none_some : {A : Type 0} (o : Option A) (x : A) → o ≡ Some x → o ≢ None
    none_some o x e n = cc

    running : j.job.state ≡ state.Run → is_held_at s.now r ≡ true
    running run = started j.job.started refl
      where
        ends : (o : Option ℕ) → status_now s j ≡ o → j.job.started ≡ true → (0 < r.expiration) → r.expiration ≤ s.now → ⊥
        ends (Some status) is st some past = nothing j known (Finishes status) (run, st, is)
        ends None is st some past = nothing j known Expires (run, st, is, subst (λ o. IsSomeAnd o (EndsBy s.now)) (sym holds) (some, past))

        later : j.job.started ≡ true → (n : ℕ) → r.expiration ≡ n → ((n == 0) || nat_lt s.now n) ≡ true
        later st zero is = refl
        later st (suc n) is = elim (cases_lt s.now (suc n)) [
          | inl up ↦ ap (λ b. b || nat_lt s.now (suc n)) (not_zero n) ∙ lt-ltb s.now (suc n) up
          | inr down ↦ absurd (ends (status_now s j) refl st (omega (arith, is)) (omega (arith, is, down)))
        ]

        started : (b : Bool) → j.job.started ≡ b → is_held_at s.now r ≡ true
        started false st = absurd (nothing j known Starts (run, st))
        started true st = later st r.expiration refl

    -- a job that is ending holds nothing
    cleaned : j.job.state ≡ state.Cleanup → ⊥
    cleaned ends = by (has_living_child s.asked j.id) refl
      where
        stopped : has_living_child s.asked j.id ≡ false → j.job.released ≡ false → (b : Bool) → j.job.started ≡ b → (o : Option ℕ) → j.job.status ≡ o → ⊥
        stopped childless held false st o status = nothing j known Releases (ends, allocated, inl st, childless, held)
        stopped childless held true st None status = nothing j known Stops (ends, st, status, childless)
        stopped childless held true st (Some n) status = nothing j known Releases (ends, allocated, inr (none_some j.job.status n status), childless, held)

        released : has_living_child s.asked j.id ≡ false → (b : Bool) → j.job.released ≡ b → ⊥
        released childless true rel = nothing j known Frees (ends, rel, kept)
        released childless false rel = stopped childless rel j.job.started refl j.job.status refl

        by : (b : Bool) → has_living_child s.asked j.id ≡ b → ⊥
        by true lives = stays j.id (record { j = j; known = known; named = refl; lives = lives; over = inr ends })
        by false childless = released childless j.job.released refl

    pub is_running : IsRunning j r
    is_running = by j.job.state refl
      where
        early : (where_ : State) → j.job.state ≡ where_ → is_early where_ ≡ true → IsRunning j r
        early where_ is e = absurd (served (own.early (ap is_early is ∙ e)))

        by : (where_ : State) → j.job.state ≡ where_ → IsRunning j r
        by state.New is = early state.New is refl
        by state.Depend is = early state.Depend is refl
        by state.Priority is = early state.Priority is refl
        by state.Sched is = early state.Sched is refl
        by state.Run is = record { runs = is; held = running is }
        by state.Cleanup is = absurd (cleaned is)
        by state.Inactive is = absurd (true≢false (sym live ∙ each_at IsOver s.jobs j over (among_from s.jobs j known) is))

  all_held : holds_at s.now s.jobs ≡ holds_of s.jobs
  all_held = held_now s.now s.jobs (λ j r i e. (is_running j (contains_from s.jobs j i) r e).held)

  -- ---- the first in the queue

  module _ (whole : IsGrant s.grant.nodes) (small : s.now < 2 ^ 64) (tells : TellsWhatFits s.grant) (anew : (id : ℕ) → s.old id ≡ false)
      (head : StoredJob) (there : Contains s.jobs head) (first : IsHead s.jobs head.id) (spec : IsSpec head.spec) where
    abbrev free : List Node
    free = free_of s.grant.nodes (holds_of s.jobs)

    waits : head.job.state ≡ state.Sched
    waits =
        let w = head_waits s.jobs head.id first in
        subst (λ j. j.job.state ≡ state.Sched) (same_job s times.rising w.j head (contains_from s.jobs w.j w.known) there w.named) w.waits

    within : (nodes : List Node) → first_fit head.spec s.grant.nodes free ≡ Some nodes → AreWithin nodes free
    within nodes fit = subst (λ ns. AreWithin ns free) (sym (enough head.spec s.grant.nodes free nodes fit).1) (picks_within head.spec s.grant.nodes (nodes_of (holds_of s.jobs)) (wanted head.spec) whole)

    abbrev taken : List Node → Resources
    taken nodes = record { nodes = nodes; starttime = s.now; expiration = sooner (end_of head.spec s.now) s.grant.expiration }

    -- it finds nothing now, else it would take that
    finds_none : FitsAt s.grant.nodes s.jobs head.spec s.now → ⊥
    finds_none can = by (first_fit head.spec s.grant.nodes free) refl
      where
        by : (o : Option (List Node)) → first_fit head.spec s.grant.nodes free ≡ o → ⊥
        by None e = (none_exactly head.spec s.grant.nodes free spec (free_is s.grant.nodes (nodes_of (holds_of s.jobs)) whole)).0 e
            (subst (λ hs. CanFit head.spec s.grant.nodes (free_of s.grant.nodes hs)) all_held can)
        by (Some nodes) e = nothing head there (Takes (taken nodes)) (waits, inl first, record { nodes = e; start = refl; end = refl; free = within nodes e; written = tells head.spec (holds_of s.jobs) s.now (taken nodes) small e refl refl }, anew head.id)

    -- the resources of a live job end at a second ahead
    is_ahead : (second : ℕ) → s.now < second → EndsAt s.jobs second → Among second (seconds_ahead s)
    is_ahead second up e =
        let here = is_running e.j (contains_from s.jobs e.j e.known) e.r e.held in
        let some : (e.r.expiration == 0) ≡ false = by e.r.expiration (omega (arith, e.ends, up)) in
        let own : Among second (seconds_of e.j) =
        subst (λ b. Among second (if b then command_seconds e.j ++ option_map_or expiry_seconds e.j.r [] else [])) (sym (ap (λ st. is_state st state.Run) here.runs))
        (among_right (command_seconds e.j) (option_map_or expiry_seconds e.j.r []) second
        (subst (λ o. Among second (option_map_or expiry_seconds o [])) (sym e.held)
        (subst (λ b. Among second (if b then [] else e.r.expiration ∷ [])) (sym some) (inl e.ends)))) in
        among_kept (λ n. nat_lt s.now n) (flat_map seconds_of s.jobs) second (among_flattened seconds_of s.jobs e.j second e.known own) (lt-ltb s.now second up)
      where
        by : (n : ℕ) → 0 < n → (n == 0) ≡ false
        by zero h = absurd (omega (arith, h))
        by (suc n) h = not_zero n

    -- so time goes on at most to its reserved second
    pub no_further : (second next : ℕ) → IsReserved s.grant.nodes s.jobs head.spec s.now second → All (λ other. next ≤ other) (seconds_ahead s) → next ≤ second
    no_further zero next h low = absurd (finds_none (subst (FitsAt s.grant.nodes s.jobs head.spec) (let from = h.from in omega (arith, from)) h.fits))
    no_further (suc p) next h low = elim (cases_lt s.now (suc p)) [
      | inl up ↦ elim (some_ends p s.jobs) [
        | inl e ↦ all_at (λ other. next ≤ other) (seconds_ahead s) (suc p) low (is_ahead (suc p) up e)
        | inr same ↦ absurd (h.least p (omega (arith, up)) (omega arith) (subst (λ hs. CanFit head.spec s.grant.nodes (free_of s.grant.nodes hs)) (sym same) h.fits))
      ]
      | inr down ↦ absurd (finds_none (subst (FitsAt s.grant.nodes s.jobs head.spec) (let from = h.from in omega (arith, from, down)) h.fits))
    ]
