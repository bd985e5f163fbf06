-- The fault of a tool whose text has a lower fault; want of memory is its own.
use Rattle.std.specs.Prelude.{ℕ}
use Rattle.idset.specs.declared.faults.IdFault.{IdFault}
use Rattle.idset.specs.declared.faults.IdFault.TheVariants as id
use Rattle.hostlist.specs.declared.faults.HostFault.{HostFault}
use Rattle.hostlist.specs.declared.faults.HostFault.TheVariants as host
use Rattle.resource_set.specs.declared.faults.RFault.{RFault}
use Rattle.resource_set.specs.declared.faults.RFault.TheVariants as r
use Rattle.event_log.specs.declared.event.LogFault.{LogFault}
use Rattle.event_log.specs.declared.event.LogFault.TheVariants as log
use Rattle.job_states.specs.declared.job.ReplayFault.{ReplayFault}
use Rattle.job_states.specs.declared.job.ReplayFault.TheVariants as replay
use Rattle.flux_tools.specs.declared.faults.ToolFault.{ToolFault}
use Rattle.flux_tools.specs.declared.faults.ToolFault.TheVariants.{NoMemory, Id, Host, R, Log, Replay}

abbrev pub of_idset : IdFault → ToolFault
of_idset id.NoMemory = NoMemory
of_idset (id.BadText place) = Id (id.BadText place)
of_idset (id.Backwards place) = Id (id.Backwards place)
of_idset (id.TooLarge place) = Id (id.TooLarge place)

abbrev pub of_hostlist : HostFault → ToolFault
of_hostlist host.NoMemory = NoMemory
of_hostlist (host.BadText place) = Host (host.BadText place)
of_hostlist (host.Backwards place) = Host (host.Backwards place)
of_hostlist host.TooMany = Host host.TooMany

abbrev pub of_r : RFault → ToolFault
of_r r.NoMemory = NoMemory
of_r (r.NotJson fault) = R (r.NotJson fault)
of_r r.BadVersion = R r.BadVersion
of_r (r.BadField key) = R (r.BadField key)
of_r (r.RankTwice rank) = R (r.RankTwice rank)
of_r (r.HostsDiffer ranks hosts) = R (r.HostsDiffer ranks hosts)
of_r r.HostTwice = R r.HostTwice

abbrev pub of_log : LogFault → ToolFault
of_log log.NoMemory = NoMemory
of_log log.NoNewline = Log log.NoNewline
of_log (log.BadLine line fault) = Log (log.BadLine line fault)

abbrev pub of_replay : ReplayFault → ToolFault
of_replay replay.NoMemory = NoMemory
of_replay (replay.NotAllowed index state) = Replay (replay.NotAllowed index state)
