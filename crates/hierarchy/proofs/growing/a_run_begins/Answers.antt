use Rattle.hierarchy.proofs.Bearing.{begins_so}
use Rattle.hierarchy.proofs.growing.a_run_begins.Goals as goal

pub returns : goal.returns
returns c = λ set. begins_so set
