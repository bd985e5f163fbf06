-- The resources of a job stay its own while its child lives: nothing that is due takes them.
use Rattle.std.proofs.Common.{◌≡◌, ℕ, ◌+◌, ◌==◌, inl, inr, List, [], ◌∷◌, Bool, true, false, ◌||◌, Option, Some, None, Result, Ok, Err, map, refl, sym, ap, ◌∙◌, subst, true≢false}
use Rattle.std.specs.Prelude.{Contains, IfSome, nat_lt, option_and_then, if◌then◌else◌}
use Rattle.std.specs.List.{list_any}
use Rattle.std.proofs.lemmas.Bool.{eqb-true}
use Rattle.event_log.specs.declared.event.Event.{Event}
use Rattle.event_log.specs.Events.{◌>>=◌}
use Rattle.job_rules.proofs.Among.{Among, among_from, contains_from, distinct_rising, each_at, same_image}
use Rattle.job_states.specs.declared.job.Change.{Change}
use Rattle.job_states.specs.declared.job.Change.TheVariants as change
use Rattle.job_states.specs.declared.job.Job.{Job}
use Rattle.job_states.specs.declared.job.State.{State}
use Rattle.job_states.specs.declared.job.State.TheVariants as state
use Rattle.job_states.specs.declared.job.ReplayFault.{ReplayFault}
use Rattle.job_states.specs.Changes.{change_of}
use Rattle.job_states.specs.Replay.{allowed, begun, replay_on, replayed, stepped}
use Rattle.job_states.specs.Table.{begun_by, changed, is_state, made, stands_in, submitted_job}
use Rattle.kvs_model.specs.Operation.{effect}
use Rattle.kvs_model.specs.Store.{IsStore, Store}
use Rattle.kvs_txn.specs.declared.txn.Scope.TheVariants as scope
use Rattle.kvs_txn.specs.declared.txn.Txn.{Txn}
use Rattle.store_laws.specs.Reserved.{IsUsers}
use Rattle.resource_set.specs.Units.{AreHosts}
use Rattle.resource_set.specs.declared.node.Resources.{Resources}
use Rattle.manager_rules.specs.Deeds.{Deed, Takes, change_by, due_of, event_of, r_given}
use Rattle.manager_rules.specs.Due.{IsDue, MayDo}
use Rattle.manager_rules.specs.Jobs.{AreJobsOf, IsStored, StoredJob, ids_of, is_live, r_in}
use Rattle.manager_rules.specs.Posts.{Desk, Does, IsDesk, IsDuePost, Post, Submission, Submits, begun_with, event_done, job_after, job_of, r_after, txn_of, with_event, with_job}
use Rattle.manager_rules.specs.Scene.{IsScene, Scene, has_living_child}
use Rattle.manager_rules.specs.Sound.{HoldsInTime, IsSound, IsSoundStore, IsUnserved}
use Rattle.manager_rules.specs.declared.due.Due.{Due}
use Rattle.manager_rules.proofs.Allowed.{writes}
use Rattle.manager_rules.proofs.Landing.{step_of}
use Rattle.manager_rules.proofs.Posting.{posts_land}
use Rattle.manager_rules.proofs.Rules.{children_keep_units}
use Rattle.manager_rules.proofs.Soundness.{in_time, jobs_within}
use Rattle.manager_rules.proofs.Stores.{users_leave_jobs}
use Rattle.manager_rules.proofs.Unique.{jobs_are_one}
use Rattle.job_rules.specs.Fits.{AreWithin, IsGrant}

-- ---- before its end a job has released nothing

-- the states up to RUN
abbrev is_unended : State → Bool
is_unended state.Cleanup = false
is_unended state.Inactive = false
is_unended _ = true

IsUnreleased : Job → Type 0
IsUnreleased job = is_unended job.state ≡ true → job.released ≡ false

ended_only : (st : State) → list_any (is_state st) (state.Cleanup ∷ []) ≡ true → is_unended st ≡ false
ended_only state.New h = cc
ended_only state.Depend h = cc
ended_only state.Priority h = cc
ended_only state.Sched h = cc
ended_only state.Run h = cc
ended_only state.Cleanup h = refl
ended_only state.Inactive h = cc

-- the state before a change that leads to one up to RUN
from_alloc : (st : State) → is_unended (if is_state st state.Sched then state.Run else st) ≡ true → is_unended st ≡ true
from_alloc state.New h = refl
from_alloc state.Depend h = refl
from_alloc state.Priority h = refl
from_alloc state.Sched h = refl
from_alloc state.Run h = refl
from_alloc state.Cleanup h = cc
from_alloc state.Inactive h = cc

one_of : (st one two three : State) → is_unended one ≡ true → is_unended two ≡ true → is_unended three ≡ true
    → list_any (is_state st) (one ∷ two ∷ three ∷ []) ≡ true → is_unended st ≡ true
one_of state.New one two three a b c h = refl
one_of state.Depend one two three a b c h = refl
one_of state.Priority one two three a b c h = refl
one_of state.Sched one two three a b c h = refl
one_of state.Run one two three a b c h = refl
one_of state.Cleanup one two three a b c h = absurd (never (is_state state.Cleanup one) (is_state state.Cleanup two) (is_state state.Cleanup three) (other one a) (other two b) (other three c) h)
  where
    other : (st : State) → is_unended st ≡ true → is_state state.Cleanup st ≡ false
    other state.New h = refl
    other state.Depend h = refl
    other state.Priority h = refl
    other state.Sched h = refl
    other state.Run h = refl
    other state.Cleanup h = cc
    other state.Inactive h = refl

    never : (x y z : Bool) → x ≡ false → y ≡ false → z ≡ false → (x || (y || (z || false))) ≡ true → ⊥
    never true y z p q r h = true≢false p
    never false true z p q r h = true≢false q
    never false false true p q r h = true≢false r
    never false false false p q r h = true≢false (sym h)
one_of state.Inactive one two three a b c h = absurd (never (is_state state.Inactive one) (is_state state.Inactive two) (is_state state.Inactive three) (other one a) (other two b) (other three c) h)
  where
    other : (st : State) → is_unended st ≡ true → is_state state.Inactive st ≡ false
    other state.New h = refl
    other state.Depend h = refl
    other state.Priority h = refl
    other state.Sched h = refl
    other state.Run h = refl
    other state.Cleanup h = cc
    other state.Inactive h = cc

    never : (x y z : Bool) → x ≡ false → y ≡ false → z ≡ false → (x || (y || (z || false))) ≡ true → ⊥
    never true y z p q r h = true≢false p
    never false true z p q r h = true≢false q
    never false false true p q r h = true≢false r
    never false false false p q r h = true≢false (sym h)

-- a state that has one of two stands among three too
wider : (p : State → Bool) (one two : State) → list_any p (one ∷ two ∷ []) ≡ true → list_any p (one ∷ two ∷ two ∷ []) ≡ true
wider p one two h = by (p one) (p two) h
  where
    by : (x y : Bool) → (x || (y || false)) ≡ true → (x || (y || (y || false))) ≡ true
    by true y h = refl
    by false true h = refl
    by false false h = h

widest : (p : State → Bool) (one : State) → list_any p (one ∷ []) ≡ true → list_any p (one ∷ one ∷ one ∷ []) ≡ true
widest p one h = by (p one) h
  where
    by : (x : Bool) → (x || false) ≡ true → (x || (x || (x || false))) ≡ true
    by true h = refl
    by false h = h

releases : (last was : Bool) (st : State) → list_any (is_state st) (if last then state.Cleanup ∷ [] else state.Run ∷ state.Cleanup ∷ []) ≡ true
    → (is_unended st ≡ true → was ≡ false) → is_unended st ≡ true → (was || last) ≡ false
releases true was st h inv e = absurd (true≢false (sym e ∙ ended_only st h))
releases false true st h inv e = inv e
releases false false st h inv e = refl

moved_unreleased : (c : Change) (job : Job) → IsUnreleased job → list_any (is_state job.state) (stands_in c job) ≡ true → IsUnreleased (made c job)
unfolding IsUnreleased
moved_unreleased (change.Submit userid urgency) job inv h = cc
moved_unreleased change.Validate job inv h = λ e. inv (one_of job.state state.New state.New state.New refl refl refl (widest (is_state job.state) state.New h))
moved_unreleased (change.AddDependency on) job inv h = inv
moved_unreleased (change.RemoveDependency on) job inv h = inv
moved_unreleased change.Depend job inv h = λ e. inv (one_of job.state state.Depend state.Depend state.Depend refl refl refl (widest (is_state job.state) state.Depend h))
moved_unreleased (change.Prioritize priority) job inv h = λ e. inv (one_of job.state state.Priority state.Sched state.Sched refl refl refl (wider (is_state job.state) state.Priority state.Sched h))
moved_unreleased (change.Urge urgency) job inv h = inv
moved_unreleased change.Alloc job inv h = λ e. inv (from_alloc job.state e)
moved_unreleased change.Restart job inv h = λ e. inv (one_of job.state state.Sched state.Sched state.Sched refl refl refl (widest (is_state job.state) state.Sched h))
moved_unreleased change.Start job inv h = inv
moved_unreleased (change.Finish status) job inv h = λ e. absurd (true≢false (sym e))
moved_unreleased (change.Except severity) job inv h = λ e. inv (by (severity == 0) e)
  where
    by : (b : Bool) → is_unended (if b then state.Cleanup else job.state) ≡ true → is_unended job.state ≡ true
    by true e = absurd (true≢false (sym e))
    by false e = e
moved_unreleased (change.Release last) job inv h = releases last job.released job.state h inv
moved_unreleased change.Free job inv h = inv
moved_unreleased change.Clean job inv h = λ e. absurd (true≢false (sym e))

changed_unreleased : (c : Change) (job next : Job) → IsUnreleased job → changed c job ≡ Some next → IsUnreleased next
changed_unreleased c job next inv e = by (list_any (is_state job.state) (stands_in c job)) refl e
  where
    by : (b : Bool) → list_any (is_state job.state) (stands_in c job) ≡ b → (if b then Some (made c job) else None) ≡ Some next → IsUnreleased next
    by true is e = let same : made c job ≡ next = cc in subst IsUnreleased same (moved_unreleased c job inv is)
    by false is e = cc

stepped_unreleased : (index : ℕ) (job : Job) (event : Event) (next : Job) → IsUnreleased job → stepped index job event ≡ Ok next → IsUnreleased next
stepped_unreleased index job event next inv e = by (change_of event) e
  where
    at : (o : Option Job) → ((n : Job) → o ≡ Some n → IsUnreleased n) → allowed index (Some job.state) o ≡ Ok next → IsUnreleased next
    at None f e = cc
    at (Some n) f e = let same : n ≡ next = cc in subst IsUnreleased same (f n refl)

    by : (o : Option Change) → allowed index (Some job.state) (option_and_then (λ c. changed c job) o) ≡ Ok next → IsUnreleased next
    by None e = cc
    by (Some c) e = at (changed c job) (λ n is. changed_unreleased c job n inv is) e

on_unreleased : (index : ℕ) (job : Job) (events : List Event) (last : Job) → IsUnreleased job → replay_on index job events ≡ Ok last → IsUnreleased last
on_unreleased index job [] last inv e = let same : job ≡ last = cc in subst IsUnreleased same inv
on_unreleased index job (event ∷ events) last inv e = by (stepped index job event) (λ next is. on_unreleased (index + 1) next events last (stepped_unreleased index job event next inv is)) refl e
  where
    by : (r : Result Job ReplayFault) → ((next : Job) → stepped index job event ≡ Ok next → replay_on (index + 1) next events ≡ Ok last → IsUnreleased last) → stepped index job event ≡ r → (r >>= λ next. replay_on (index + 1) next events) ≡ Ok last → IsUnreleased last
    by (Ok next) more is e = more next is e
    by (Err fault) more is e = cc

begun_unreleased : (event : Event) (job : Job) → begun event ≡ Ok job → IsUnreleased job
unfolding IsUnreleased
begun_unreleased event job e = by (change_of event) e
  where
    of : (c : Change) → allowed 0 None (begun_by c) ≡ Ok job → IsUnreleased job
    of (change.Submit userid urgency) e = let same : submitted_job userid urgency ≡ job = cc in subst IsUnreleased same (λ unended. refl)
    of _ e = cc

    by : (o : Option Change) → allowed 0 None (option_and_then begun_by o) ≡ Ok job → IsUnreleased job
    by None e = cc
    by (Some c) e = of c e

pub replayed_unreleased : (events : List Event) (job : Job) → replayed events ≡ Ok job → job.state ≡ state.Run → job.released ≡ false
unfolding IsUnreleased
replayed_unreleased [] job e runs = cc
replayed_unreleased (event ∷ events) job e runs = by (begun event) refl e
  where
    by : (r : Result Job ReplayFault) → begun event ≡ r → (r >>= λ first. replay_on 1 first events) ≡ Ok job → job.released ≡ false
    by (Ok first) is e = on_unreleased 1 first events job (begun_unreleased event first is) e (ap is_unended runs)
    by (Err fault) is e = cc

-- ---- a store that keeps the resources of a job

-- the job holds these resources in the store, and has released nothing of them
pub record HoldsFor (st : Store) (id : ℕ) (r : Resources) : Type 0 where
  pub jobs : List StoredJob
  pub are : AreJobsOf st jobs
  pub j : StoredJob
  pub known : Contains jobs j
  pub is : j.id ≡ id
  pub held : j.r ≡ Some r
  pub kept : j.job.released ≡ false

-- what holds resources is live
pub live_so : (st : Store) (j : StoredJob) (r : Resources) → IsStored st j → j.r ≡ Some r → is_live j.job ≡ true
live_so st j r stored held = by (is_live j.job) refl (sym stored.r_is ∙ held)
  where
    by : (b : Bool) → is_live j.job ≡ b → (if b then r_in st j.id else None) ≡ Some r → is_live j.job ≡ true
    by true is e = is
    by false is e = cc

-- only a job that has had none is given resources
given_none : (s : Scene) (j : StoredJob) → HoldsInTime j → is_live j.job ≡ true → (deed : Deed) → MayDo s j deed → r_given deed ≡ None
given_none s j timely live (Takes r) m = absurd (true≢false (sym live ∙ (let u : IsUnserved j.job = timely.early (rw m.0 refl) in rw u.allocated refl)))
given_none s j timely live _ m = refl

module _ (s : Scene) (scene : IsScene s) (j : StoredJob) (hosts : IfSome j.r (λ r. AreHosts r.nodes)) (timely : HoldsInTime j) (live : is_live j.job ≡ true)
    (lives : has_living_child s.asked j.id ≡ true) (kept : j.job.released ≡ false) (deed : Deed) (m : MayDo s j deed) where
  job_is : job_after (change_of (event_of s.now j deed)) j.job ≡ made (change_by deed) j.job
  job_is = ap (λ o. job_after o j.job) (writes s j deed scene hosts m).asks

  still : ((made (change_by deed) j.job).released ≡ false) × (is_live j.job ≡ true → is_live (made (change_by deed) j.job) ≡ true)
  still = children_keep_units s j deed m lives kept

  -- after an event of its own it holds what it held
  held_still : (event_done (due_of s.now j deed) j).r ≡ j.r
  held_still =
      ap (λ b. if b then r_after (r_given deed) j.r else None) (ap is_live job_is ∙ still.1 live)
      ∙ ap (λ o. r_after o j.r) (given_none s j timely live deed m)

  kept_still : (event_done (due_of s.now j deed) j).job.released ≡ false
  kept_still = ap (λ job. job.released) job_is ∙ still.0

-- a job among others stays, whichever is added
still_among : (x j : StoredJob) (jobs : List StoredJob) → Among j jobs → Among j (with_job x jobs)
still_among x j [] i = absurd i
still_among x j (first ∷ jobs) i = by (nat_lt x.id first.id) i (still_among x j jobs)
  where
    by : (b : Bool) → Among j (first ∷ jobs) → (Among j jobs → Among j (with_job x jobs)) → Among j (if b then x ∷ first ∷ jobs else first ∷ with_job x jobs)
    by true i more = inr i
    by false (inl e) more = inl e
    by false (inr i) more = inr (more i)

still_begun : (o : Option Change) (x : Submission) (j : StoredJob) (jobs : List StoredJob) → Among j jobs → Among j (begun_with o x jobs)
still_begun (Some (change.Submit userid urgency)) x j jobs i = still_among (job_of x userid urgency) j jobs i
still_begun _ x j jobs i = i

mapped_among : (f : StoredJob → StoredJob) (j : StoredJob) (jobs : List StoredJob) → Among j jobs → Among (f j) (map f jobs)
mapped_among f j [] i = absurd i
mapped_among f j (x ∷ jobs) i = elim i [ inl e ↦ inl (ap f e) | inr more ↦ inr (mapped_among f j jobs more) ]

module _ (d : Desk) (desk : IsDesk d) (grant : IsGrant d.scene.grant.nodes) (st new : Store) (is : IsStore st) (are : AreJobsOf st d.scene.jobs)
    (sound : IsSoundStore d.scene.grant.nodes st) where
  hosts_of : (j : StoredJob) → Contains d.scene.jobs j → IfSome j.r (λ r. AreHosts r.nodes)
  hosts_of j known =
      let here : IsSound d.scene.grant.nodes d.scene.jobs = subst (IsSound d.scene.grant.nodes) (jobs_are_one st sound.jobs d.scene.jobs sound.are are) sound.sound in
      of j.r (each_at (λ k. IfSome k.r (λ r. AreWithin r.nodes d.scene.grant.nodes)) d.scene.jobs j (jobs_within d.scene.grant.nodes d.scene.jobs here.apart.within) (among_from d.scene.jobs j known))
    where
      of : (o : Option Resources) → IfSome o (λ r. AreWithin r.nodes d.scene.grant.nodes) → IfSome o (λ r. AreHosts r.nodes)
      of None h = tt
      of (Some r) h = h.hosts

  module _ (id : ℕ) (r : Resources) (lives : has_living_child d.scene.asked id ≡ true) (h : HoldsFor st id r) where
    same_jobs : h.jobs ≡ d.scene.jobs
    same_jobs = jobs_are_one st h.jobs d.scene.jobs h.are are

    here : Contains d.scene.jobs h.j
    here = subst (λ jobs. Contains jobs h.j) same_jobs h.known

    stored : IsStored st h.j
    stored = each_at (IsStored st) d.scene.jobs h.j are.stored (among_from d.scene.jobs h.j here)

    live : is_live h.j.job ≡ true
    live = live_so st h.j r stored h.held

    timely : HoldsInTime h.j
    timely = each_at HoldsInTime d.scene.jobs h.j (in_time st d.scene.jobs are).each (among_from d.scene.jobs h.j here)

    -- the job after an event of one of the jobs
    record Still (k : StoredJob) : Type 0 where
      named : k.id ≡ id
      holds : k.r ≡ Some r
      unreleased : k.job.released ≡ false

    own_event : (deed : Deed) → MayDo d.scene h.j deed → Still (event_done (due_of d.scene.now h.j deed) h.j)
    own_event deed m =
        let lives_so : has_living_child d.scene.asked h.j.id ≡ true = subst (λ n. has_living_child d.scene.asked n ≡ true) (sym h.is) lives in
        record {
          named = h.is;
          holds = held_still d.scene desk.scene h.j (hosts_of h.j here) timely live lives_so h.kept deed m ∙ h.held;
          unreleased = kept_still d.scene desk.scene h.j (hosts_of h.j here) timely live lives_so h.kept deed m;
        }

    after_event : (due : Due) → IsDue d.scene due → Still (step_of due h.j)
    unfolding step_of
    after_event due x = elim (h.j.id == due.job) as (λ b. (h.j.id == due.job) ≡ b → Still (if b then event_done due h.j else h.j)) [
      | true ↦ λ t.
          let own : h.j.id ≡ x.j.id = eqb-true h.j.id due.job t ∙ ap (λ y. y.job) x.is in
          let same : x.j ≡ h.j = same_image (λ k. k.id) d.scene.jobs x.j h.j (distinct_rising (ids_of d.scene.jobs) are.rising) (among_from d.scene.jobs x.j x.known) (among_from d.scene.jobs h.j here) (sym own) in
          subst (λ y. Still (event_done y h.j)) (sym (x.is ∙ ap (λ k. due_of d.scene.now k x.deed) same)) (own_event x.deed (subst (λ k. MayDo d.scene k x.deed) same x.may))
      | false ↦ λ t. record { named = h.is; holds = h.held; unreleased = h.kept }
    ] refl

    -- what is due leaves it its resources
    pub post_holds : (post : Post) → IsDuePost d post → effect st (txn_of post) scope.Primary ≡ Ok new → HoldsFor new id r
    unfolding step_of
    post_holds (Does due) x e =
        let s = after_event due x in
        record {
          jobs = with_event due d.scene.jobs;
          are = posts_land d desk grant st new is are sound (Does due) x e;
          j = step_of due h.j;
          known = contains_from (with_event due d.scene.jobs) (step_of due h.j) (mapped_among (step_of due) h.j d.scene.jobs (among_from d.scene.jobs h.j here));
          is = s.named;
          held = s.holds;
          kept = s.unreleased;
        }
    post_holds (Submits x) due e = record {
      jobs = begun_with (change_of x.event) x d.scene.jobs;
      are = posts_land d desk grant st new is are sound (Submits x) due e;
      j = h.j;
      known = contains_from (begun_with (change_of x.event) x d.scene.jobs) h.j (still_begun (change_of x.event) x h.j d.scene.jobs (among_from d.scene.jobs h.j here));
      is = h.is;
      held = h.held;
      kept = h.kept;
    }

-- a user's transaction leaves it so too
pub user_holds : (st new : Store) (txn : Txn) (id : ℕ) (r : Resources) → IsUsers txn → effect st txn scope.Primary ≡ Ok new → HoldsFor st id r → HoldsFor new id r
user_holds st new txn id r user e h = record {
  jobs = h.jobs;
  are = users_leave_jobs st new txn h.jobs user e h.are;
  j = h.j;
  known = h.known;
  is = h.is;
  held = h.held;
  kept = h.kept;
}
