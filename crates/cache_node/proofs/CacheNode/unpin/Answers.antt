use Rattle.cache_node.proofs.Caches.{sound_released}
use Rattle.cache_node.proofs.CacheNode.unpin.Goals as goal

pub invariant_of-self : goal.invariant_of-self
invariant_of-self c = (sound_released c.self.inside.dirty.entries c.self.inside.clean c.unpin.new.self c.args.reference.now c.self.invariant.0 c.unpin.ensures.released, c.self.invariant.1)
