-- What is said of a run's fault.
use Rattle.std.specs.Prelude.{ℕ, ◌==◌, List, Option, Some, None, codes, if◌then◌else◌}
use Rattle.workload_reader.specs.Faults.{fault_text as line_text}
use Rattle.flux_tools.specs.Notices.{fault_text as tool_text}
use Rattle.flux_commands.specs.declared.faults.Fault.{Fault}
use Rattle.flux_commands.specs.declared.faults.Fault.TheVariants as fault
use Rattle.flux_commands.specs.declared.faults.Run.{Run}

abbrev pub notice_text : Fault → List ℕ
notice_text fault.Nothing = codes "done"
notice_text fault.Words = codes "usage: flux_cli run|gen|idset|hostlist|fluid|R|replay"
notice_text (fault.Line f) = line_text f
notice_text (fault.Tool f) = tool_text f
notice_text fault.Read = codes "read fault"
notice_text fault.Memory = codes "no memory"
notice_text (fault.Write n) = codes "write fault"

-- what is said in the end of a run: nothing at status 0
abbrev pub closing_text : Run → Option (List ℕ)
closing_text run = if run.status == 0 then None else Some (notice_text run.fault)
