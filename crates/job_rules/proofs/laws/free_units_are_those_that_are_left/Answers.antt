use Rattle.job_rules.specs.Fits.{nodes_of}
use Rattle.job_rules.proofs.Lying.{free_differs}
use Rattle.job_rules.proofs.laws.free_units_are_those_that_are_left.Goals as goal

pub returns : goal.returns
returns c = λ grant live. free_differs grant (nodes_of live)
