use Rattle.workload_reader.proofs.Within.{text_within}
use Rattle.workload_reader.proofs.laws.spelled_workloads_are_within.Goals as goal

pub returns : goal.returns
returns c = text_within
