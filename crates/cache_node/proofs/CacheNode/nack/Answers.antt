use Rattle.std.proofs.Common.{rules, ◌≡◌, ◌∙◌, ap}
use Rattle.std.specs.Map.{remove_entry}
use Rattle.lru.specs.LruCache.{lru_cache}
use Rattle.fl_digest.specs.Reference.{same_reference}
use Rattle.cache_node.proofs.Caches.{sound_refused}
use Rattle.cache_node.proofs.CacheNode.nack.Goals as goal

pub invariant_of-self : goal.invariant_of-self
invariant_of-self c =
    let out : c.pop.new.self ≡ lru_cache (remove_entry (same_reference c.args.reference.now) c.self.inside.dirty.entries) c.self.inside.dirty.cap = search rules in
    (rw (ap (λ m. m.entries) out) (sound_refused c.self.inside.dirty.entries c.self.inside.clean c.args.reference.now c.self.invariant.0), ap (λ m. m.cap) out ∙ c.self.invariant.1)
