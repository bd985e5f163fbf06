use Rattle.cache_node.proofs.Caches.{sound_pinned}
use Rattle.cache_node.proofs.CacheNode.pin.Goals as goal

pub invariant_of-self : goal.invariant_of-self
invariant_of-self c = (sound_pinned c.self.inside.dirty.entries c.self.inside.clean c.pin.new.self c.args.reference.now c.self.invariant.0 c.pin.ensures.pinned, c.self.invariant.1)
