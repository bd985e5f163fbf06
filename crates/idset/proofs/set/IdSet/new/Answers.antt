use Rattle.idset.proofs.Sets.{no_ids}
use Rattle.idset.proofs.set.IdSet.new.Goals as goal

pub returns : goal.returns
returns c = no_ids c.new.result.items c.new.ensures.items
