-- The table of events and states (Flux RFC 21).
use Rattle.std.specs.Prelude.{ℕ, ◌==◌, ◌||◌, List, [], ◌∷◌, ◌++◌, Bool, true, false, Option, Some, None, if◌then◌else◌}
use Rattle.std.specs.List.{list_any}
use Rattle.job_states.specs.declared.job.Change.{Change}
use Rattle.job_states.specs.declared.job.Change.TheVariants.{Submit, Validate, AddDependency, RemoveDependency, Depend, Prioritize, Urge, Alloc, Restart, Start, Finish, Except, Release, Free, Clean}
use Rattle.job_states.specs.declared.job.Job.{Job}
use Rattle.job_states.specs.declared.job.State.{State}
use Rattle.job_states.specs.declared.job.State.TheVariants as state

-- where a state stands in the usual order, and whether two states are one
abbrev pub place_of : State → ℕ
place_of state.New = 0
place_of state.Depend = 1
place_of state.Priority = 2
place_of state.Sched = 3
place_of state.Run = 4
place_of state.Cleanup = 5
place_of state.Inactive = 6

abbrev pub is_state : State → State → Bool
is_state a b = place_of a == place_of b

-- the states in which a change may stand
abbrev pub stands_in : Change → Job → List State
stands_in (Submit userid urgency) job = []
stands_in Validate job = state.New ∷ []
stands_in (AddDependency on) job = state.New ∷ state.Depend ∷ []
stands_in (RemoveDependency on) job = state.New ∷ state.Depend ∷ []
stands_in Depend job = state.Depend ∷ []
stands_in (Prioritize priority) job = state.Priority ∷ state.Sched ∷ []
stands_in (Urge urgency) job = state.Depend ∷ state.Priority ∷ state.Sched ∷ []
stands_in Alloc job = if job.allocated || job.freed
    then state.Sched ∷ [] else state.Sched ∷ state.Cleanup ∷ []
stands_in Restart job = state.Sched ∷ []
stands_in Start job = state.Run ∷ state.Cleanup ∷ []
stands_in (Finish status) job = state.Run ∷ state.Cleanup ∷ []
stands_in (Except severity) job =
    state.Depend ∷ state.Priority ∷ state.Sched ∷ state.Run ∷ state.Cleanup ∷ []
stands_in (Release last) job = if last then state.Cleanup ∷ [] else state.Run ∷ state.Cleanup ∷ []
stands_in Free job = state.Cleanup ∷ []
stands_in Clean job = state.Cleanup ∷ []

-- the state to which it leads from there
abbrev pub leads_to : Change → State → State
leads_to (Submit userid urgency) from = state.New
leads_to Validate from = state.Depend
leads_to (AddDependency on) from = from
leads_to (RemoveDependency on) from = from
leads_to Depend from = state.Priority
leads_to (Prioritize priority) from = state.Sched
leads_to (Urge urgency) from = from
leads_to Alloc from = if is_state from state.Sched then state.Run else from
leads_to Restart from = state.Priority
leads_to Start from = from
leads_to (Finish status) from = state.Cleanup
leads_to (Except severity) from = if severity == 0 then state.Cleanup else from
leads_to (Release last) from = from
leads_to Free from = from
leads_to Clean from = state.Inactive

-- what it leaves in a job besides
abbrev pub marked : Change → Job → Job
marked (Submit userid urgency) job = job
marked Validate job = job
marked (AddDependency on) job = record job { added = job.added ++ on ∷ [] }
marked (RemoveDependency on) job = record job { removed = job.removed ++ on ∷ [] }
marked Depend job = job
marked (Prioritize priority) job = record job { priority = Some priority }
marked (Urge urgency) job = record job { urgency = urgency }
marked Alloc job = record job { allocated = true }
marked Restart job = job
marked Start job = record job { started = true }
marked (Finish status) job = record job { status = Some status }
marked (Except severity) job = record job { severe = job.severe || severity == 0 }
marked (Release last) job = record job { released = job.released || last }
marked Free job = record job { freed = true }
marked Clean job = job

-- the job after a change
abbrev pub made : Change → Job → Job
made change job = record (marked change job) { state = leads_to change job.state }

-- the same, if the change may stand there
abbrev pub changed : Change → Job → Option Job
changed change job = if list_any (is_state job.state) (stands_in change job)
    then Some (made change job) else None

-- a job that is just submitted
abbrev pub submitted_job : ℕ → ℕ → Job
submitted_job userid urgency = record {
  state = state.New;
  userid = userid;
  urgency = urgency;
  priority = None;
  status = None;
  severe = false;
  allocated = false;
  started = false;
  released = false;
  freed = false;
  added = [];
  removed = [];
}

-- the job that a change begins: a submission does, and nothing else
abbrev pub begun_by : Change → Option Job
begun_by (Submit userid urgency) = Some (submitted_job userid urgency)
begun_by _ = None
