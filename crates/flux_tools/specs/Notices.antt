-- What is said of a tool's fault: its name, and its place where it has one.
use Rattle.std.specs.Prelude.{ℕ, List, ◌++◌, codes, decimal}
use Rattle.outside.specs.declared.reading.ReadFault.{ReadFault}
use Rattle.outside.specs.declared.reading.ReadFault.TheVariants as read
use Rattle.fl_json.specs.declared.faults.JsonFault.{JsonFault}
use Rattle.fl_json.specs.declared.faults.JsonFault.TheVariants as json
use Rattle.idset.specs.declared.faults.IdFault.{IdFault}
use Rattle.idset.specs.declared.faults.IdFault.TheVariants as id
use Rattle.hostlist.specs.declared.faults.HostFault.{HostFault}
use Rattle.hostlist.specs.declared.faults.HostFault.TheVariants as host
use Rattle.fluid_ids.specs.declared.faults.FluidFault.{FluidFault}
use Rattle.fluid_ids.specs.declared.faults.FluidFault.TheVariants as fluid
use Rattle.resource_set.specs.declared.faults.RFault.{RFault}
use Rattle.resource_set.specs.declared.faults.RFault.TheVariants as r
use Rattle.event_log.specs.declared.event.LogFault.{LogFault}
use Rattle.event_log.specs.declared.event.LogFault.TheVariants as log
use Rattle.job_states.specs.declared.job.ReplayFault.{ReplayFault}
use Rattle.job_states.specs.declared.job.ReplayFault.TheVariants as replay
use Rattle.flux_tools.specs.declared.faults.ToolFault.{ToolFault}
use Rattle.flux_tools.specs.declared.faults.ToolFault.TheVariants.{NoMemory, Id, Host, Fluid, R, Log, Replay, Read}

-- want of memory
abbrev pub memory_text : List ℕ
memory_text = codes "no memory"

-- what is said of a text, and the byte where the fault stands
abbrev pub at_place : List ℕ → ℕ → List ℕ
at_place said place = said ++ decimal place

abbrev pub id_text : IdFault → List ℕ
id_text id.NoMemory = memory_text
id_text (id.BadText place) = at_place (codes "BadText at ") place
id_text (id.Backwards place) = at_place (codes "Backwards at ") place
id_text (id.TooLarge place) = at_place (codes "TooLarge at ") place

abbrev pub host_text : HostFault → List ℕ
host_text host.NoMemory = memory_text
host_text (host.BadText place) = at_place (codes "BadText at ") place
host_text (host.Backwards place) = at_place (codes "Backwards at ") place
host_text host.TooMany = codes "TooMany"

abbrev pub fluid_text : FluidFault → List ℕ
fluid_text fluid.BadText = codes "BadText"
fluid_text fluid.TooLarge = codes "TooLarge"

abbrev pub json_text : JsonFault → List ℕ
json_text (json.BadNumber place) = at_place (codes "BadNumber at ") place
json_text _ = codes "NotJson"

abbrev pub r_text : RFault → List ℕ
r_text r.NoMemory = memory_text
r_text (r.NotJson fault) = json_text fault
r_text r.BadVersion = codes "BadVersion"
r_text (r.BadField key) = codes "BadField"
r_text (r.RankTwice rank) = codes "RankTwice"
r_text (r.HostsDiffer ranks hosts) = codes "HostsDiffer"
r_text r.HostTwice = codes "HostTwice"

abbrev pub log_text : LogFault → List ℕ
log_text log.NoMemory = memory_text
log_text log.NoNewline = codes "NoNewline"
log_text (log.BadLine line fault) = codes "BadLine"

abbrev pub replay_text : ReplayFault → List ℕ
replay_text replay.NoMemory = memory_text
replay_text (replay.NotAllowed index state) = codes "NotAllowed"

abbrev pub read_text : ReadFault → List ℕ
read_text read.NoMemory = memory_text
read_text read.Failed = codes "read fault"
read_text read.TooLong = codes "input too long"

abbrev pub fault_text : ToolFault → List ℕ
fault_text NoMemory = memory_text
fault_text (Id fault) = id_text fault
fault_text (Host fault) = host_text fault
fault_text (Fluid fault) = fluid_text fault
fault_text (R fault) = r_text fault
fault_text (Log fault) = log_text fault
fault_text (Replay fault) = replay_text fault
fault_text (Read fault) = read_text fault
