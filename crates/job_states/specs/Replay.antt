-- What the events of a log make of its job, or the first event that may not stand where it does.
use Rattle.std.specs.Prelude.{ℕ, ◌+◌, List, [], ◌∷◌, Option, Some, None, Result, Ok, Err, option_and_then}
use Rattle.event_log.specs.declared.event.Event.{Event}
use Rattle.event_log.specs.Events.{◌>>=◌}
use Rattle.job_states.specs.declared.job.Job.{Job}
use Rattle.job_states.specs.declared.job.State.{State}
use Rattle.job_states.specs.declared.job.ReplayFault.{ReplayFault}
use Rattle.job_states.specs.declared.job.ReplayFault.TheVariants.{NoMemory, NotAllowed}
use Rattle.job_states.specs.Changes.{change_of}
use Rattle.job_states.specs.Table.{changed, begun_by}

-- the job, or the refusal of the event at this place in this state
abbrev pub allowed : ℕ → Option State → Option Job → Result Job ReplayFault
allowed index state (Some job) = Ok job
allowed index state None = Err (NotAllowed index state)

-- the job after its first event
abbrev pub begun : Event → Result Job ReplayFault
begun event = allowed 0 None (option_and_then begun_by (change_of event))

-- the job after the event at this place
abbrev pub stepped : ℕ → Job → Event → Result Job ReplayFault
stepped index job event = allowed index (Some job.state)
    (option_and_then (λ change. changed change job) (change_of event))

-- the job after further events, of which the first stands at this place
abbrev pub replay_on : ℕ → Job → List Event → Result Job ReplayFault
replay_on index job [] = Ok job
replay_on index job (event ∷ events) =
    stepped index job event >>= λ next. replay_on (index + 1) next events

-- the job after all events
abbrev pub replayed : List Event → Result Job ReplayFault
replayed [] = Err (NotAllowed 0 None)
replayed (event ∷ events) = begun event >>= λ job. replay_on 1 job events

-- the faults that tell of what is read: all but want of memory
abbrev pub lasting : ReplayFault → Option ReplayFault
lasting NoMemory = None
lasting fault = Some fault
