use Rattle.kvs_space.proofs.Announced.{heard_announced}
use Rattle.kvs_space.proofs.links.hear.Goals as goal

pub returns-clause-announced : goal.returns-clause-announced
returns-clause-announced c = heard_announced c.requires.announced c.in_ok-announce.ensures
