use Rattle.job_rules.specs.Fits.{free_of, nodes_of}
use Rattle.job_rules.proofs.Sets.{free_is, sound}
use Rattle.job_rules.proofs.laws.first_fit_gives_free_units_that_satisfy.Goals as goal

pub returns : goal.returns
returns c = λ spec grant given live s g e. sound spec grant (free_of grant live) (free_is grant (nodes_of live) g) s given e
