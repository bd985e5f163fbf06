-- A job that waits for resources has had none.
use Rattle.std.proofs.Common.{◌≡◌, ℕ, ◌+◌, Bool, true, false, List, [], ◌∷◌, Option, Some, None, Result, Ok, Err, refl, sym, ◌∙◌, subst, true≢false}
use Rattle.std.specs.Prelude.{◌||◌, ◌==◌, option_and_then, if◌then◌else◌}
use Rattle.std.specs.List.{list_any}
use Rattle.event_log.specs.declared.event.Event.{Event}
use Rattle.event_log.specs.Events.{◌>>=◌}
use Rattle.job_states.specs.declared.job.Change.{Change}
use Rattle.job_states.specs.declared.job.Change.TheVariants as change
use Rattle.job_states.specs.declared.job.Job.{Job}
use Rattle.job_states.specs.declared.job.State.{State}
use Rattle.job_states.specs.declared.job.State.TheVariants as state
use Rattle.job_states.specs.declared.job.ReplayFault.{ReplayFault}
use Rattle.job_states.specs.Changes.{change_of}
use Rattle.job_states.specs.Table.{begun_by, changed, is_state, made, stands_in, submitted_job}
use Rattle.manager_rules.specs.Sound.{IsUnserved, is_early}
use Rattle.job_states.specs.Replay.{allowed, begun, replay_on, replayed, stepped}

pub IsEarlyUnserved : Job → Type 0
IsEarlyUnserved job = is_early job.state ≡ true → IsUnserved job

-- in which of these states an event stands, by cases on the state
new_early : (st : State) → list_any (is_state st) (state.New ∷ []) ≡ true → is_early st ≡ true
new_early state.New h = refl
new_early state.Depend h = cc
new_early state.Priority h = cc
new_early state.Sched h = cc
new_early state.Run h = cc
new_early state.Cleanup h = cc
new_early state.Inactive h = cc

depend_early : (st : State) → list_any (is_state st) (state.Depend ∷ []) ≡ true → is_early st ≡ true
depend_early state.New h = refl
depend_early state.Depend h = refl
depend_early state.Priority h = refl
depend_early state.Sched h = refl
depend_early state.Run h = cc
depend_early state.Cleanup h = cc
depend_early state.Inactive h = cc

queue_early : (st : State) → list_any (is_state st) (state.Priority ∷ state.Sched ∷ []) ≡ true → is_early st ≡ true
queue_early state.New h = refl
queue_early state.Depend h = refl
queue_early state.Priority h = refl
queue_early state.Sched h = refl
queue_early state.Run h = cc
queue_early state.Cleanup h = cc
queue_early state.Inactive h = cc

sched_early : (st : State) → list_any (is_state st) (state.Sched ∷ []) ≡ true → is_early st ≡ true
sched_early state.New h = refl
sched_early state.Depend h = refl
sched_early state.Priority h = refl
sched_early state.Sched h = refl
sched_early state.Run h = cc
sched_early state.Cleanup h = cc
sched_early state.Inactive h = cc

cleanup_late : (st : State) → list_any (is_state st) (state.Cleanup ∷ []) ≡ true → is_early st ≡ false
cleanup_late state.New h = cc
cleanup_late state.Depend h = cc
cleanup_late state.Priority h = cc
cleanup_late state.Sched h = cc
cleanup_late state.Run h = refl
cleanup_late state.Cleanup h = refl
cleanup_late state.Inactive h = refl

alloc_late : (b : Bool) (st : State) → list_any (is_state st) (if b then state.Sched ∷ [] else state.Sched ∷ state.Cleanup ∷ []) ≡ true → is_early (if is_state st state.Sched then state.Run else st) ≡ false
alloc_late true state.New h = cc
alloc_late true state.Depend h = cc
alloc_late true state.Priority h = cc
alloc_late true state.Sched h = refl
alloc_late true state.Run h = cc
alloc_late true state.Cleanup h = cc
alloc_late true state.Inactive h = cc
alloc_late false state.New h = cc
alloc_late false state.Depend h = cc
alloc_late false state.Priority h = cc
alloc_late false state.Sched h = refl
alloc_late false state.Run h = cc
alloc_late false state.Cleanup h = refl
alloc_late false state.Inactive h = cc

never : (b : Bool) (job : Job) → b ≡ false → b ≡ true → IsUnserved job
never b job e h = absurd (true≢false (sym h ∙ e))

moved_early : (c : Change) (job : Job) → IsEarlyUnserved job → list_any (is_state job.state) (stands_in c job) ≡ true → IsEarlyUnserved (made c job)
unfolding IsEarlyUnserved
moved_early (change.Submit userid urgency) job inv h = cc
moved_early change.Validate job inv h = λ e. let was = inv (new_early job.state h) in record { allocated = was.allocated; freed = was.freed }
moved_early (change.AddDependency on) job inv h = λ e. let was = inv e in record { allocated = was.allocated; freed = was.freed }
moved_early (change.RemoveDependency on) job inv h = λ e. let was = inv e in record { allocated = was.allocated; freed = was.freed }
moved_early change.Depend job inv h = λ e. let was = inv (depend_early job.state h) in record { allocated = was.allocated; freed = was.freed }
moved_early (change.Prioritize priority) job inv h = λ e. let was = inv (queue_early job.state h) in record { allocated = was.allocated; freed = was.freed }
moved_early (change.Urge urgency) job inv h = λ e. let was = inv e in record { allocated = was.allocated; freed = was.freed }
moved_early change.Alloc job inv h = λ e. absurd (true≢false (sym e ∙ alloc_late (job.allocated || job.freed) job.state h))
moved_early change.Restart job inv h = λ e. let was = inv (sched_early job.state h) in record { allocated = was.allocated; freed = was.freed }
moved_early change.Start job inv h = λ e. let was = inv e in record { allocated = was.allocated; freed = was.freed }
moved_early (change.Finish status) job inv h = λ e. absurd (true≢false (sym e))
moved_early (change.Except severity) job inv h = by (severity == 0)
  where
    by : (b : Bool) → is_early (if b then state.Cleanup else job.state) ≡ true → IsUnserved (record job { severe = job.severe || severity == 0; state = if b then state.Cleanup else job.state })
    by true e = absurd (true≢false (sym e))
    by false e = let was = inv e in record { allocated = was.allocated; freed = was.freed }
moved_early (change.Release last) job inv h = λ e. let was = inv e in record { allocated = was.allocated; freed = was.freed }
moved_early change.Free job inv h = λ e. absurd (true≢false (sym e ∙ cleanup_late job.state h))
moved_early change.Clean job inv h = λ e. absurd (true≢false (sym e))

changed_early : (c : Change) (job next : Job) → IsEarlyUnserved job → changed c job ≡ Some next → IsEarlyUnserved next
changed_early c job next inv e = by (list_any (is_state job.state) (stands_in c job)) refl e
  where
    by : (b : Bool) → list_any (is_state job.state) (stands_in c job) ≡ b → (if b then Some (made c job) else None) ≡ Some next → IsEarlyUnserved next
    by true is e = let same : made c job ≡ next = cc in subst IsEarlyUnserved same (moved_early c job inv is)
    by false is e = cc

stepped_early : (index : ℕ) (job : Job) (event : Event) (next : Job) → IsEarlyUnserved job → stepped index job event ≡ Ok next → IsEarlyUnserved next
stepped_early index job event next inv e = by (change_of event) e
  where
    at : (o : Option Job) → ((n : Job) → o ≡ Some n → IsEarlyUnserved n) → allowed index (Some job.state) o ≡ Ok next → IsEarlyUnserved next
    at None f e = cc
    at (Some n) f e = let same : n ≡ next = cc in subst IsEarlyUnserved same (f n refl)

    by : (o : Option Change) → allowed index (Some job.state) (option_and_then (λ c. changed c job) o) ≡ Ok next → IsEarlyUnserved next
    by None e = cc
    by (Some c) e = at (changed c job) (λ n is. changed_early c job n inv is) e

on_early : (index : ℕ) (job : Job) (events : List Event) (last : Job) → IsEarlyUnserved job → replay_on index job events ≡ Ok last → IsEarlyUnserved last
on_early index job [] last inv e = let same : job ≡ last = cc in subst IsEarlyUnserved same inv
on_early index job (event ∷ events) last inv e = by (stepped index job event) (λ next is. on_early (index + 1) next events last (stepped_early index job event next inv is)) refl e
  where
    by : (r : Result Job ReplayFault) → ((next : Job) → stepped index job event ≡ Ok next → replay_on (index + 1) next events ≡ Ok last → IsEarlyUnserved last) → stepped index job event ≡ r → (r >>= λ next. replay_on (index + 1) next events) ≡ Ok last → IsEarlyUnserved last
    by (Ok next) more is e = more next is e
    by (Err fault) more is e = cc

begun_early : (event : Event) (job : Job) → begun event ≡ Ok job → IsEarlyUnserved job
unfolding IsEarlyUnserved
begun_early event job e = by (change_of event) e
  where
    of : (c : Change) → allowed 0 None (begun_by c) ≡ Ok job → IsEarlyUnserved job
    of (change.Submit userid urgency) e = let same : submitted_job userid urgency ≡ job = cc in subst IsEarlyUnserved same (λ early. record { allocated = refl; freed = refl })
    of _ e = cc

    by : (o : Option Change) → allowed 0 None (option_and_then begun_by o) ≡ Ok job → IsEarlyUnserved job
    by None e = cc
    by (Some c) e = of c e

pub replayed_early : (events : List Event) (job : Job) → replayed events ≡ Ok job → is_early job.state ≡ true → IsUnserved job
unfolding IsEarlyUnserved
replayed_early [] job e = cc
replayed_early (event ∷ events) job e = by (begun event) refl e
  where
    by : (r : Result Job ReplayFault) → begun event ≡ r → (r >>= λ first. replay_on 1 first events) ≡ Ok job → IsEarlyUnserved job
    by (Ok first) is e = on_early 1 first events job (begun_early event first is) e
    by (Err fault) is e = cc

-- what holds before RUN is kept by each change that may stand
pub made_early : (c : Change) (job : Job) → (is_early job.state ≡ true → IsUnserved job) → list_any (is_state job.state) (stands_in c job) ≡ true → is_early (made c job).state ≡ true → IsUnserved (made c job)
unfolding IsEarlyUnserved
made_early c job inv h = moved_early c job inv h
