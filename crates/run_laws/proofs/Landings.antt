-- What a landing whose transactions of the manager are due leaves of the jobs, transaction by
-- transaction: what each due post keeps of each job, and the reserved second of the first in the
-- queue doesn't rise.
use Rattle.std.proofs.Common.{◌≡◌, ℕ, ◌<◌, ◌≤◌, ◌^◌, ◌⊎◌, inl, inr, true, false, List, [], ◌∷◌, ◌++◌, Option, Some, None, Result, Ok, Err, refl, sym, ap, ◌∙◌, subst, arith, true≢false}
use Rattle.std.specs.Prelude.{◌==◌, nat_lt, Contains, IfSome, option_and_then, if◌then◌else◌}
use Rattle.std.specs.List.{cons_option, AllByRecursion as Each}
use Rattle.std.proofs.lemmas.Bool.{eq-eqb}
use Rattle.std.proofs.lemmas.Bool.Decides.{eqb_tells}
use Rattle.job_rules.specs.Fits.{AreWithin, IsGrant, IsSpec}
use Rattle.job_rules.proofs.Among.{Among, among_from, among_map, among_mapped, contains_from, each_at}
use Rattle.job_states.specs.Changes.{change_of}
use Rattle.job_states.specs.Table.{is_state, made}
use Rattle.job_states.specs.declared.job.Change.{Change}
use Rattle.job_states.specs.declared.job.Change.TheVariants as change
use Rattle.job_states.specs.declared.job.Job.{Job}
use Rattle.job_states.specs.declared.job.State.TheVariants as state
use Rattle.kvs_model.specs.History.{after_groups, landed_on}
use Rattle.kvs_model.specs.Operation.{effect}
use Rattle.kvs_model.specs.Store.{IsStore, Store}
use Rattle.kvs_txn.specs.declared.answers.Refusal.{Refusal}
use Rattle.kvs_txn.specs.declared.txn.Author.{Author}
use Rattle.kvs_txn.specs.declared.txn.Author.TheVariants as author
use Rattle.kvs_txn.specs.declared.txn.Group.{Group}
use Rattle.kvs_txn.specs.declared.txn.Scope.TheVariants as scope
use Rattle.resource_set.specs.Units.{AreHosts}
use Rattle.resource_set.specs.declared.node.Node.{Node}
use Rattle.resource_set.specs.declared.node.Resources.{Resources}
use Rattle.store_laws.specs.Reserved.{IsUserAuthor}
use Rattle.manager_rules.specs.declared.due.Due.{Due}
use Rattle.manager_rules.specs.Deeds.{Deed, Takes, change_by, due_of, event_of}
use Rattle.manager_rules.specs.Dependencies.{IsHead}
use Rattle.manager_rules.specs.Due.{MayDo}
use Rattle.manager_rules.specs.Jobs.{AreJobsOf, IsStored, StoredJob}
use Rattle.manager_rules.specs.Keys.{spec_path, value_at}
use Rattle.manager_rules.specs.Posts.{Desk, Does, IsDesk, IsDuePost, Post, Submission, Submits, begun_with, event_done, job_after, job_of, jobs_after, with_event, with_job}
use Rattle.manager_rules.specs.Reserved.{IsReserved, hold_at, holds_at}
use Rattle.manager_rules.specs.Scene.{IsScene, Scene}
use Rattle.manager_rules.specs.Sound.{AreInTime, IsSound, IsSoundStore}
use Rattle.manager_rules.proofs.Allowed.{writes}
use Rattle.manager_rules.proofs.Posting.{posts_land, read_from}
use Rattle.manager_rules.proofs.Reserving.{gives, held_before, never_rises, no_later, same_reserved}
use Rattle.manager_rules.proofs.Rules.{same_job}
use Rattle.manager_rules.proofs.Soundness.{in_time, jobs_within}
use Rattle.manager_rules.proofs.Stores.{users_leave_jobs}
use Rattle.manager_rules.proofs.Unique.{jobs_are_one}
use Rattle.instance_rules.specs.Desks.{AreDueFrom, IsDeskOf, IsDueFor}
use Rattle.instance_rules.specs.Log.{Instance, IsInstance, Log, now_of}
use Rattle.instance_rules.proofs.Sounds.{desk_kept, groups_keep, store_after_group}
use Rattle.run_laws.specs.Reserved.{IsFirstIn, WaitsIn}
use Rattle.run_laws.proofs.Heads.{head_waits}

-- what live jobs hold lies on hosts in rank order
pub hosts_of : (grant : List Node) (jobs : List StoredJob) → IsSound grant jobs → (j : StoredJob) → Contains jobs j → IfSome j.r (λ r. AreHosts r.nodes)
hosts_of grant jobs sound j known = of j.r (each_at (λ k. IfSome k.r (λ r. AreWithin r.nodes grant)) jobs j (jobs_within grant jobs sound.apart.within) (among_from jobs j known))
  where
    of : (o : Option Resources) → IfSome o (λ r. AreWithin r.nodes grant) → IfSome o (λ r. AreHosts r.nodes)
    of None h = tt
    of (Some r) h = h.hosts

-- ---- a due event and the first in the queue

-- a job once an event has landed
abbrev step_of : Due → StoredJob → StoredJob
step_of due k = if k.id == due.job then event_done due k else k

step_id : (due : Due) (k : StoredJob) → (step_of due k).id ≡ k.id
step_id due k = elim (k.id == due.job) as (λ b. (if b then event_done due k else k).id ≡ k.id) [ true ↦ refl | false ↦ refl ]

step_spec : (due : Due) (k : StoredJob) → (step_of due k).spec ≡ k.spec
step_spec due k = elim (k.id == due.job) as (λ b. (if b then event_done due k else k).spec ≡ k.spec) [ true ↦ refl | false ↦ refl ]

-- the first in the queue waits on with a second that isn't later
abbrev pub WaitsOn : List Node → ℕ → ℕ → ℕ → Store → Type 0
WaitsOn grant now id second st = (later : ℕ) × (later ≤ second) × WaitsIn grant now id later st

module _ (s : Scene) (scene : IsScene s) (whole : IsGrant s.grant.nodes) (sound : IsSound s.grant.nodes s.jobs) (st new : Store) (are : AreJobsOf st s.jobs)
    (id second : ℕ) (w : WaitsIn s.grant.nodes s.now id second st) (still : IsFirstIn id new) where
  abbrev grant : List Node
  grant = s.grant.nodes

  same : w.jobs ≡ s.jobs
  same = jobs_are_one st w.jobs s.jobs w.are are

  there : Contains s.jobs w.head
  there = subst (λ js. Contains js w.head) same w.known

  first : IsHead s.jobs w.head.id
  first = subst (IsHead s.jobs) (sym w.named) (subst (λ js. IsHead js id) same w.first)

  reserved : IsReserved grant s.jobs w.head.spec s.now second
  reserved = subst (λ js. IsReserved grant js w.head.spec s.now second) same w.reserved

  spec : IsSpec w.head.spec
  spec = read_from (value_at st (spec_path w.head.id)) w.head.spec (each_at (IsStored st) s.jobs w.head are.stored (among_from s.jobs w.head there)).spec_is

  still_first : (jobs : List StoredJob) → AreJobsOf new jobs → IsHead jobs id
  still_first jobs lands = subst (λ js. IsHead js id) (jobs_are_one new still.0 jobs still.1 lands) still.2

  module _ (j : StoredJob) (known : Contains s.jobs j) (deed : Deed) (m : MayDo s j deed) (lands : AreJobsOf new (with_event (due_of s.now j deed) s.jobs)) where
    abbrev posted_due : Due
    posted_due = due_of s.now j deed

    waits_with : (later : ℕ) × (later ≤ second) × IsReserved grant (with_event posted_due s.jobs) w.head.spec s.now later → WaitsOn grant s.now id second new
    waits_with (later, low, r) = (
      later,
      low,
      record {
        jobs = with_event posted_due s.jobs;
        are = lands;
        head = step_of posted_due w.head;
        known = contains_from (with_event posted_due s.jobs) (step_of posted_due w.head) (among_mapped (step_of posted_due) s.jobs w.head (among_from s.jobs w.head there));
        named = step_id posted_due w.head ∙ w.named;
        first = still_first (with_event posted_due s.jobs) lands;
        reserved = subst (λ x. IsReserved grant (with_event posted_due s.jobs) x s.now later) (sym (step_spec posted_due w.head)) r;
      },
    )

    -- the first took nothing itself, else it waited no more
    takes_none : (r : Resources) → deed ≡ Takes r → j.id ≡ w.head.id → ⊥
    takes_none r is one =
        let k = head_waits (with_event posted_due s.jobs) id (still_first (with_event posted_due s.jobs) lands) in
        let from = among_map (step_of posted_due) s.jobs k.j k.known in
        let mine : j ≡ from.0 = same_job s are.rising j from.0 known (contains_from s.jobs from.0 from.1) (one ∙ w.named ∙ sym k.named ∙ sym (ap (λ (x : StoredJob). x.id) from.2) ∙ step_id posted_due from.0) in
        let done : step_of posted_due j ≡ event_done posted_due j = ap (λ b. if b then event_done posted_due j else j) (eq-eqb j.id j.id refl) in
        let job_is : job_after (change_of (event_of s.now j deed)) j.job ≡ made (change_by deed) j.job = ap (λ o. job_after o j.job) (writes s j deed scene (hosts_of grant s.jobs sound j known) m).asks in
        let takes : MayDo s j (Takes r) = subst (MayDo s j) is m in
        let runs : (made (change_by deed) j.job).state ≡ state.Run = ap (λ d. (made (change_by d) j.job).state) is ∙ ap (λ st. if is_state st state.Sched then state.Run else st) takes.0 in
        let state_is : (event_done posted_due j).job.state ≡ state.Run = ap (λ (job : Job). job.state) job_is ∙ runs in
        let both : state.Sched ≡ state.Run = sym k.waits ∙ sym (ap (λ (x : StoredJob). x.job.state) from.2) ∙ sym (ap (λ x. (step_of posted_due x).job.state) mine) ∙ ap (λ (x : StoredJob). x.job.state) done ∙ state_is in
        cc

    event_waits : WaitsOn grant s.now id second new
    event_waits = elim (eqb_tells j.id w.head.id) [
      | inr other ↦ waits_with (never_rises s j deed scene (in_time st s.jobs are) whole known m w.head there first (λ e. true≢false (sym (eq-eqb j.id w.head.id e) ∙ other.0)) spec second reserved)
      | inl own ↦ elim (gives deed) [
        | inl none ↦ waits_with (no_later w.head.spec grant spec whole s.jobs (with_event posted_due s.jobs) s.now second (λ t h i. held_before posted_due t s.jobs none h i) reserved)
        | inr takes ↦ absurd (takes_none takes.0 takes.1 own.1)
      ]
    ]

  -- a new job holds nothing
  more_holds : (t : ℕ) (x : StoredJob) (jobs : List StoredJob) → x.r ≡ None → holds_at t (with_job x jobs) ≡ holds_at t jobs
  more_holds t x [] none = rw none refl
  more_holds t x (k ∷ jobs) none = elim (nat_lt x.id k.id) as (λ b. holds_at t (if b then x ∷ k ∷ jobs else k ∷ with_job x jobs) ≡ holds_at t (k ∷ jobs)) [
    | true ↦ rw none refl
    | false ↦ ap (cons_option (hold_at t k)) (more_holds t x jobs none)
  ]

  more_among : (x y : StoredJob) (jobs : List StoredJob) → Among y jobs → Among y (with_job x jobs)
  more_among x y [] i = absurd i
  more_among x y (k ∷ jobs) i = elim (nat_lt x.id k.id) as (λ b. Among y (if b then x ∷ k ∷ jobs else k ∷ with_job x jobs)) [
    | true ↦ inr i
    | false ↦ elim i [ inl e ↦ inl e | inr more ↦ inr (more_among x y jobs more) ]
  ]

  begun_holds : (o : Option Change) (x : Submission) (t : ℕ) → holds_at t (begun_with o x s.jobs) ≡ holds_at t s.jobs
  begun_holds (Some (change.Submit userid urgency)) x t = more_holds t (job_of x userid urgency) s.jobs refl
  begun_holds _ x t = refl

  begun_among : (o : Option Change) (x : Submission) → Among w.head (begun_with o x s.jobs)
  begun_among (Some (change.Submit userid urgency)) x = more_among (job_of x userid urgency) w.head s.jobs (among_from s.jobs w.head there)
  begun_among _ x = among_from s.jobs w.head there

  submission_waits : (x : Submission) → AreJobsOf new (jobs_after (Submits x) s.jobs) → WaitsOn grant s.now id second new
  submission_waits x lands = (
    second,
    omega arith,
    record {
      jobs = jobs_after (Submits x) s.jobs;
      are = lands;
      head = w.head;
      known = contains_from (jobs_after (Submits x) s.jobs) w.head (begun_among (change_of x.event) x);
      named = w.named;
      first = still_first (jobs_after (Submits x) s.jobs) lands;
      reserved = same_reserved grant s.jobs (jobs_after (Submits x) s.jobs) w.head.spec s.now second (λ t. begun_holds (change_of x.event) x t) reserved;
    },
  )

-- ---- transaction by transaction

-- P of each job of the store
abbrev pub AllJobs : (StoredJob → Type 0) → Store → Type 0
AllJobs P st = (jobs : List StoredJob) → AreJobsOf st jobs → Each P jobs

-- where P holds of each job, it does after each post that is due in a grant
abbrev pub KeptByPosts : Resources → (StoredJob → Type 0) → Type 0
KeptByPosts given P = (d : Desk) → IsDesk d → d.scene.grant ≡ given → AreInTime d.scene.jobs → IsSound d.scene.grant.nodes d.scene.jobs → (post : Post) → IsDuePost d post
    → Each P d.scene.jobs → Each P (jobs_after post d.scene.jobs)

module _ (inst : Instance) (valid : IsInstance inst) (log : Log) (timed : now_of inst log < 2 ^ 64) where
  -- a user's transaction leaves the jobs
  LeavesJobs : Store → Store → Type 0
  LeavesJobs st new = (jobs : List StoredJob) → AreJobsOf st jobs → AreJobsOf new jobs

  -- one of the manager is of a due post
  record IsPosted (st new : Store) : Type 0 where
    desk : Desk
    is : IsDeskOf inst log st desk
    post : Post
    due : IsDuePost desk post
    lands : AreJobsOf new (jobs_after post desk.scene.jobs)

  Moves : Store → Store → Type 0
  Moves st new = LeavesJobs st new ⊎ IsPosted st new

  moves : (st new : Store) (group : Group) (who : Author) → group.txn.author ≡ who → IsStore st → IsSoundStore inst.grant.nodes st → IsDueFor inst log st group who
      → effect st group.txn scope.Primary ≡ Ok new → Moves st new
  unfolding Moves LeavesJobs
  moves st new group author.Manager by is h due e = inr (record {
    desk = due.desk;
    is = due.is;
    post = due.post;
    due = due.due;
    lands = posts_land due.desk (desk_kept inst valid log timed st due.desk due.is) (subst (λ g. IsGrant g.nodes) (sym due.is.grant) valid.grant) st new is due.is.jobs
        (subst (λ g. IsSoundStore g.nodes st) (sym due.is.grant) h) due.post due.due (subst (λ t. effect st t scope.Primary ≡ Ok new) due.txn e);
  })
  moves st new group (author.User user) by is h due e = inl (λ jobs are. users_leave_jobs st new group.txn jobs (subst IsUserAuthor (sym by) tt) e are)

  -- a lone transaction that is due
  alone : (st mid : Store) (group : Group) → IsDueFor inst log st group group.txn.author → effect st group.txn scope.Primary ≡ Ok mid
      → AreDueFrom inst log (group ∷ []) st × (after_groups scope.Primary (group ∷ []) st ≡ Some mid)
  alone st mid group due e = ((due, subst (λ r. IfSome (landed_on r) (AreDueFrom inst log [])) (sym e) tt), ap (λ r. option_and_then (λ x. Some x) (landed_on r)) e)

  -- P of each store behind a first part of the transactions
  Along : List Group → Store → (Store → Type 0) → Type 0
  Along groups st P = (done left : List Group) (mid : Store) → groups ≡ done ++ left → after_groups scope.Primary done st ≡ Some mid → P mid

  module _ (R P : Store → Type 0) (step : (st new : Store) → IsStore st → IsSoundStore inst.grant.nodes st → Moves st new → P new → R st → R new) where
    walk : (groups : List Group) (st new : Store) → IsStore st → IsSoundStore inst.grant.nodes st → AreDueFrom inst log groups st → after_groups scope.Primary groups st ≡ Some new → Along groups st P → R st → R new
    unfolding Along
    walk [] st new is h due e all r = let same : st ≡ new = cc in subst R same r
    walk (group ∷ groups) st new is h due e all r = by (effect st group.txn scope.Primary) refl (λ mid is2 h2 due2 e2 all2 r2. walk groups mid new is2 h2 due2 e2 all2 r2) due.1 e
      where
        by : (x : Result Store Refusal) → effect st group.txn scope.Primary ≡ x
            → ((mid : Store) → IsStore mid → IsSoundStore inst.grant.nodes mid → AreDueFrom inst log groups mid → after_groups scope.Primary groups mid ≡ Some new → Along groups mid P → R mid → R new)
            → IfSome (landed_on x) (AreDueFrom inst log groups) → option_and_then (λ mid. after_groups scope.Primary groups mid) (landed_on x) ≡ Some new → R new
        by (Ok mid) made more later e =
            let lone = alone st mid group due.0 made in
            more mid (store_after_group inst valid log timed st mid group is made) (groups_keep inst valid log timed (group ∷ []) st mid is h lone.0 lone.1) later e
            (λ done left m split at_. all (group ∷ done) left m (ap (λ l. group ∷ l) split) (ap (λ x. option_and_then (λ y. after_groups scope.Primary done y) (landed_on x)) made ∙ at_))
            (step st mid is h (moves st mid group group.txn.author refl is h due.0 made) (all (group ∷ []) groups mid refl lone.1) r)
        by (Err why) made more later e = cc

  sound_here : (st : Store) (d : Desk) → IsSoundStore inst.grant.nodes st → IsDeskOf inst log st d → IsSound d.scene.grant.nodes d.scene.jobs
  sound_here st d h is = subst (λ g. IsSound g.nodes d.scene.jobs) (sym is.grant) (subst (IsSound inst.grant.nodes) (jobs_are_one st h.jobs d.scene.jobs h.are is.jobs) h.sound)

  -- ---- each job

  module _ (P : StoredJob → Type 0) (keeps : KeptByPosts inst.grant P) where
    jobs_step : (st new : Store) → IsStore st → IsSoundStore inst.grant.nodes st → Moves st new → Unit {0} → AllJobs P st → AllJobs P new
    unfolding Moves LeavesJobs
    jobs_step st new is h (inl leaves) known all jobs are = subst (Each P) (jobs_are_one new h.jobs jobs (leaves h.jobs h.are) are) (all h.jobs h.are)
    jobs_step st new is h (inr p) known all jobs are =
        subst (Each P) (jobs_are_one new (jobs_after p.post p.desk.scene.jobs) jobs p.lands are)
        (keeps p.desk (desk_kept inst valid log timed st p.desk p.is) p.is.grant (in_time st p.desk.scene.jobs p.is.jobs) (sound_here st p.desk h p.is) p.post p.due (all p.desk.scene.jobs p.is.jobs))

    pub landing_jobs : (groups : List Group) (st new : Store) → IsStore st → IsSoundStore inst.grant.nodes st → AreDueFrom inst log groups st → after_groups scope.Primary groups st ≡ Some new → AllJobs P st → AllJobs P new
    unfolding Along
    landing_jobs groups st new is h due e all = walk (AllJobs P) (λ mid. Unit {0}) jobs_step groups st new is h due e (λ done left mid split at_. tt) all

  -- ---- the first in the queue

  module _ (id second : ℕ) where
    abbrev Waits : Store → Type 0
    Waits st = WaitsOn inst.grant.nodes (now_of inst log) id second st

    no_later_than : (grant : List Node) (now later : ℕ) (st : Store) → later ≤ second → WaitsOn grant now id later st → WaitsOn grant now id second st
    no_later_than grant now later st low (sooner, lower, w) = (sooner, omega (arith, low, lower), w)

    posted : (st new : Store) → IsSoundStore inst.grant.nodes st → (d : Desk) → IsDeskOf inst log st d → (post : Post) → IsDuePost d post → AreJobsOf new (jobs_after post d.scene.jobs) → IsFirstIn id new
        → (later : ℕ) → WaitsIn d.scene.grant.nodes d.scene.now id later st → WaitsOn d.scene.grant.nodes d.scene.now id later new
    posted st new h d is (Submits x) due lands still later w =
        submission_waits d.scene (desk_kept inst valid log timed st d is).scene (subst (λ g. IsGrant g.nodes) (sym is.grant) valid.grant) (sound_here st d h is) st new is.jobs id later w still x lands
    posted st new h d is (Does x) due lands still later w =
        event_waits d.scene (desk_kept inst valid log timed st d is).scene (subst (λ g. IsGrant g.nodes) (sym is.grant) valid.grant) (sound_here st d h is) st new is.jobs id later w still
        due.j due.known due.deed due.may (subst (λ y. AreJobsOf new (with_event y d.scene.jobs)) due.is lands)

    waits_step : (st new : Store) → IsStore st → IsSoundStore inst.grant.nodes st → Moves st new → IsFirstIn id new → Waits st → Waits new
    unfolding Moves LeavesJobs
    waits_step st new is h (inl leaves) still (later, low, w) = (later, low, record { jobs = w.jobs; are = leaves w.jobs w.are; head = w.head; known = w.known; named = w.named; first = w.first; reserved = w.reserved })
    waits_step st new is h (inr p) still (later, low, w) =
        let here : WaitsIn p.desk.scene.grant.nodes p.desk.scene.now id later st = subst (λ g. WaitsIn g.nodes p.desk.scene.now id later st) (sym p.is.grant) (subst (λ n. WaitsIn inst.grant.nodes n id later st) (sym p.is.now) w) in
        let next = posted st new h p.desk p.is p.post p.due p.lands still later here in
        no_later_than inst.grant.nodes (now_of inst log) later new low
        (subst (λ n. WaitsOn inst.grant.nodes n id later new) p.is.now (subst (λ g. WaitsOn g.nodes p.desk.scene.now id later new) p.is.grant next))

    pub landing_waits : (groups : List Group) (st new : Store) → IsStore st → IsSoundStore inst.grant.nodes st → AreDueFrom inst log groups st → after_groups scope.Primary groups st ≡ Some new
        → ((done left : List Group) (mid : Store) → groups ≡ done ++ left → after_groups scope.Primary done st ≡ Some mid → IsFirstIn id mid)
        → WaitsIn inst.grant.nodes (now_of inst log) id second st → WaitsOn inst.grant.nodes (now_of inst log) id second new
    unfolding Along
    landing_waits groups st new is h due e all w = walk Waits (IsFirstIn id) waits_step groups st new is h due e all (second, omega arith, w)
