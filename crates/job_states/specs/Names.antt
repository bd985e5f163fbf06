-- The names of states (Flux RFC 21), and the texts of faults.
use Rattle.std.specs.Prelude.{ℕ, List, ◌++◌, Some, None, codes, decimal}
use Rattle.job_states.specs.declared.job.State.{State}
use Rattle.job_states.specs.declared.job.State.TheVariants.{New, Depend, Priority, Sched, Run, Cleanup, Inactive}
use Rattle.job_states.specs.declared.job.ReplayFault.{ReplayFault}
use Rattle.job_states.specs.declared.job.ReplayFault.TheVariants.{NoMemory, NotAllowed}

abbrev pub state_name : State → List ℕ
state_name New = codes "NEW"
state_name Depend = codes "DEPEND"
state_name Priority = codes "PRIORITY"
state_name Sched = codes "SCHED"
state_name Run = codes "RUN"
state_name Cleanup = codes "CLEANUP"
state_name Inactive = codes "INACTIVE"

-- the text of a fault: the event's place, and the state that refuses it
abbrev pub fault_text : ReplayFault → List ℕ
fault_text NoMemory = codes "out of memory"
fault_text (NotAllowed index None) =
    codes "event " ++ decimal index ++ codes " is not allowed in no state"
fault_text (NotAllowed index (Some state)) =
    codes "event " ++ decimal index ++ codes " is not allowed in " ++ state_name state
