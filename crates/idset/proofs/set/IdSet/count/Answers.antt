use Rattle.idset.proofs.Sets.{is_set}
use Rattle.idset.proofs.set.IdSet.count.Goals as goal

pub returns-clause-set : goal.returns-clause-set
returns-clause-set c = is_set c.self.inside.ranges.items _ c.self.view_is
