use Rattle.workload_generator.proofs.Spelled.{text_sound}
use Rattle.workload_generator.proofs.laws.drawn_workloads_have_no_fault.Goals as goal

pub returns : goal.returns
returns c = text_sound
