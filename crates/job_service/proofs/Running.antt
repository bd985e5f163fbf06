-- A job in RUN holds the resources that it was given.
use Rattle.std.proofs.Common.{◌≡◌, ℕ, ◌+◌, ◌||◌, ◌&&◌, ◌==◌, Bool, true, false, List, [], ◌∷◌, Option, Some, None, Contains, Result, Ok, Err, refl, sym, subst, true≢false}
use Rattle.std.specs.Prelude.{not, option_and_then, if◌then◌else◌}
use Rattle.std.specs.List.{list_any}
use Rattle.job_deeds.specs.event_log.declared.event.Event.{Event}
use Rattle.job_deeds.specs.event_log.Events.{◌>>=◌}
use Rattle.job_deeds.proofs.job_rules_proofs.Among.{among_from, each_at}
use Rattle.job_deeds.specs.job_states.Changes.{change_of}
use Rattle.job_deeds.specs.job_states.Replay.{allowed, begun, replay_on, replayed, stepped}
use Rattle.job_deeds.specs.job_states.Table.{begun_by, changed, is_state, made, stands_in, submitted_job}
use Rattle.job_deeds.specs.job_states.declared.job.Change.{Change}
use Rattle.job_deeds.specs.job_states.declared.job.Change.TheVariants as change
use Rattle.job_deeds.specs.job_states.declared.job.Job.{Job}
use Rattle.job_deeds.specs.job_states.declared.job.ReplayFault.{ReplayFault}
use Rattle.job_deeds.specs.job_states.declared.job.State.{State}
use Rattle.job_deeds.specs.job_states.declared.job.State.TheVariants as state
use Rattle.job_deeds.specs.kvs_model.Store.{Store}
use Rattle.job_deeds.proofs.manager_rules_proofs.Waiting.{made_early}
use Rattle.job_deeds.specs.manager_rules.Jobs.{AreJobsOf, IsStored, StoredJob, is_live}
use Rattle.job_deeds.specs.manager_rules.Sound.{IsUnserved, is_early}

-- before RUN it has had none, and in RUN it has them
record HasInTime (job : Job) : Type 0 where
  early : is_early job.state ≡ true → IsUnserved job
  live : job.state ≡ state.Run → is_live job ≡ true

-- where resources are given, and the job runs then, it has had none
given_early : (b : Bool) (st : State) → list_any (is_state st) (if b then state.Sched ∷ [] else state.Sched ∷ state.Cleanup ∷ []) ≡ true → (if is_state st state.Sched then state.Run else st) ≡ state.Run → is_early st ≡ true
given_early b state.Sched h e = refl
given_early true state.New h e = cc
given_early true state.Depend h e = cc
given_early true state.Priority h e = cc
given_early true state.Run h e = cc
given_early true state.Cleanup h e = cc
given_early true state.Inactive h e = cc
given_early false state.New h e = cc
given_early false state.Depend h e = cc
given_early false state.Priority h e = cc
given_early false state.Run h e = cc
given_early false state.Cleanup h e = cc
given_early false state.Inactive h e = cc

freed_late : (st : State) → list_any (is_state st) (state.Cleanup ∷ []) ≡ true → st ≡ state.Run → ⊥
freed_late st h e = let late : list_any (is_state state.Run) (state.Cleanup ∷ []) ≡ true = subst (λ s. list_any (is_state s) (state.Cleanup ∷ []) ≡ true) e h in true≢false (sym late)

unfreed : (freed : Bool) → freed ≡ false → (true && not freed) ≡ true
unfreed true e = cc
unfreed false e = refl

moved_live : (c : Change) (job : Job) → HasInTime job → list_any (is_state job.state) (stands_in c job) ≡ true → (made c job).state ≡ state.Run → is_live (made c job) ≡ true
moved_live (change.Submit userid urgency) job inv h e = cc
moved_live change.Validate job inv h e = cc
moved_live (change.AddDependency on) job inv h e = inv.live e
moved_live (change.RemoveDependency on) job inv h e = inv.live e
moved_live change.Depend job inv h e = cc
moved_live (change.Prioritize priority) job inv h e = cc
moved_live (change.Urge urgency) job inv h e = inv.live e
moved_live change.Alloc job inv h e = let was = inv.early (given_early (job.allocated || job.freed) job.state h e) in unfreed job.freed was.freed
moved_live change.Restart job inv h e = cc
moved_live change.Start job inv h e = inv.live e
moved_live (change.Finish status) job inv h e = cc
moved_live (change.Except severity) job inv h e = by (severity == 0) e
  where
    by : (b : Bool) → (if b then state.Cleanup else job.state) ≡ state.Run → is_live job ≡ true
    by true e = cc
    by false e = inv.live e
moved_live (change.Release last) job inv h e = inv.live e
moved_live change.Free job inv h e = absurd (freed_late job.state h e)
moved_live change.Clean job inv h e = cc

moved : (c : Change) (job : Job) → HasInTime job → list_any (is_state job.state) (stands_in c job) ≡ true → HasInTime (made c job)
moved c job inv h = record { early = made_early c job inv.early h; live = moved_live c job inv h }

changed_in_time : (c : Change) (job next : Job) → HasInTime job → changed c job ≡ Some next → HasInTime next
changed_in_time c job next inv e = by (list_any (is_state job.state) (stands_in c job)) refl e
  where
    by : (b : Bool) → list_any (is_state job.state) (stands_in c job) ≡ b → (if b then Some (made c job) else None) ≡ Some next → HasInTime next
    by true is e = let same : made c job ≡ next = cc in subst HasInTime same (moved c job inv is)
    by false is e = cc

stepped_in_time : (index : ℕ) (job : Job) (event : Event) (next : Job) → HasInTime job → stepped index job event ≡ Ok next → HasInTime next
stepped_in_time index job event next inv e = by (change_of event) e
  where
    at : (o : Option Job) → ((n : Job) → o ≡ Some n → HasInTime n) → allowed index (Some job.state) o ≡ Ok next → HasInTime next
    at None f e = cc
    at (Some n) f e = let same : n ≡ next = cc in subst HasInTime same (f n refl)

    by : (o : Option Change) → allowed index (Some job.state) (option_and_then (λ c. changed c job) o) ≡ Ok next → HasInTime next
    by None e = cc
    by (Some c) e = at (changed c job) (λ n is. changed_in_time c job n inv is) e

on_in_time : (index : ℕ) (job : Job) (events : List Event) (last : Job) → HasInTime job → replay_on index job events ≡ Ok last → HasInTime last
on_in_time index job [] last inv e = let same : job ≡ last = cc in subst HasInTime same inv
on_in_time index job (event ∷ events) last inv e = by (stepped index job event) (λ next is. on_in_time (index + 1) next events last (stepped_in_time index job event next inv is)) refl e
  where
    by : (r : Result Job ReplayFault) → ((next : Job) → stepped index job event ≡ Ok next → replay_on (index + 1) next events ≡ Ok last → HasInTime last) → stepped index job event ≡ r → (r >>= λ next. replay_on (index + 1) next events) ≡ Ok last → HasInTime last
    by (Ok next) more is e = more next is e
    by (Err fault) more is e = cc

first_in_time : (userid urgency : ℕ) → HasInTime (submitted_job userid urgency)
first_in_time userid urgency = record { early = λ e. record { allocated = refl; freed = refl }; live = λ e. cc }

begun_in_time : (event : Event) (job : Job) → begun event ≡ Ok job → HasInTime job
begun_in_time event job e = by (change_of event) e
  where
    of : (c : Change) → allowed 0 None (begun_by c) ≡ Ok job → HasInTime job
    of (change.Submit userid urgency) e = let same : submitted_job userid urgency ≡ job = cc in subst HasInTime same (first_in_time userid urgency)
    of _ e = cc

    by : (o : Option Change) → allowed 0 None (option_and_then begun_by o) ≡ Ok job → HasInTime job
    by None e = cc
    by (Some c) e = of c e

replayed_in_time : (events : List Event) (job : Job) → replayed events ≡ Ok job → HasInTime job
replayed_in_time [] job e = cc
replayed_in_time (event ∷ events) job e = by (begun event) refl e
  where
    by : (r : Result Job ReplayFault) → begun event ≡ r → (r >>= λ first. replay_on 1 first events) ≡ Ok job → HasInTime job
    by (Ok first) is e = on_in_time 1 first events job (begun_in_time event first is) e
    by (Err fault) is e = cc

-- so in a store
pub running_is_live : (st : Store) (jobs : List StoredJob) → AreJobsOf st jobs → (j : StoredJob) → Contains jobs j → j.job.state ≡ state.Run → is_live j.job ≡ true
running_is_live st jobs are j known runs =
    let stored = each_at (IsStored st) jobs j are.stored (among_from jobs j known) in
    (replayed_in_time (stored.first ∷ stored.more) j.job stored.replays).live runs
