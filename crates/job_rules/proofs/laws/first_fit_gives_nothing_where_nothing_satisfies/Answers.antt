use Rattle.job_rules.specs.Fits.{free_of, nodes_of}
use Rattle.job_rules.proofs.Sets.{free_is, none_exactly}
use Rattle.job_rules.proofs.laws.first_fit_gives_nothing_where_nothing_satisfies.Goals as goal

pub returns : goal.returns
returns c = λ spec grant live s g. none_exactly spec grant (free_of grant live) s (free_is grant (nodes_of live) g)
