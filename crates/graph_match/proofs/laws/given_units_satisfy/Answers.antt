use Rattle.job_rules.specs.Fits.{free_of, nodes_of}
use Rattle.job_rules.proofs.Sets.{free_is, sound}
use Rattle.graph_match.proofs.laws.given_units_satisfy.Goals as goal

pub returns-clause-set : goal.returns-clause-set
returns-clause-set c = λ g spec now r is grant fit. (sound spec g.grant (free_of g.grant g.live) (free_is g.grant (nodes_of g.live) grant) is r.nodes fit.nodes).0

pub returns-clause-free : goal.returns-clause-free
returns-clause-free c = λ g spec now r is grant fit. (sound spec g.grant (free_of g.grant g.live) (free_is g.grant (nodes_of g.live) grant) is r.nodes fit.nodes).1

pub returns-clause-satisfied : goal.returns-clause-satisfied
returns-clause-satisfied c = λ g spec now r is grant fit. (sound spec g.grant (free_of g.grant g.live) (free_is g.grant (nodes_of g.live) grant) is r.nodes fit.nodes).2
