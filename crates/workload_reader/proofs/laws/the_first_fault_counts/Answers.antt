use Rattle.workload_reader.proofs.FirstFaults.{there, only}
use Rattle.workload_reader.proofs.laws.the_first_fault_counts.Goals as goal

pub returns : goal.returns
returns c = record { there = there; only = only }
