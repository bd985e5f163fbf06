use Rattle.std.proofs.Common.{arith, rules, ◌≡◌, ◌∙◌, ap, false, is_some}
use Rattle.lru.specs.LruCache.{lru_cache, put_entries}
use Rattle.fl_digest.specs.Reference.{same_reference}
use Rattle.cache_node.specs.Cache.{dirty_at, held_at}
use Rattle.cache_node.proofs.Caches.{open_put, neither, stored_is}
use Rattle.cache_node.proofs.CacheNode.put_dirty.Goals as goal

pub invariant_of-self-2 : goal.invariant_of-self-2
invariant_of-self-2 c =
    let none : is_some c.any.result ≡ false = search rules in
    let absent = neither c.args.reference c.args.self.now c.any.result none c.any.ensures.found in
    let put : c.put.new.self ≡ lru_cache (put_entries same_reference c.self.inside.dirty c.args.reference c.args.bytes) c.self.inside.dirty.cap = search rules in
    (open_put c.self.inside.dirty c.put.new.self c.self.inside.clean c.args.reference c.args.bytes c.self.invariant
    (ap (dirty_at c.args.reference) c.self.view_is ∙ absent.0) (ap (held_at c.args.reference) c.self.view_is ∙ absent.1) c.requires
    (omega (arith, c.len-count.ensures.len, c.len-count.ensures.fits)) put).0

pub returns-clause-stored : goal.returns-clause-stored
returns-clause-stored c =
    let none : is_some c.any.result ≡ false = search rules in
    let absent = neither c.args.reference c.args.self.now c.any.result none c.any.ensures.found in
    let put : c.put.new.self ≡ lru_cache (put_entries same_reference c.self.inside.dirty c.args.reference c.args.bytes) c.self.inside.dirty.cap = search rules in
    stored_is c.self.inside.dirty.entries c.self.inside.clean c.args.self.now c.put.new.self.entries c.args.reference c.args.bytes c.self.view_is absent.2
    (open_put c.self.inside.dirty c.put.new.self c.self.inside.clean c.args.reference c.args.bytes c.self.invariant
    (ap (dirty_at c.args.reference) c.self.view_is ∙ absent.0) (ap (held_at c.args.reference) c.self.view_is ∙ absent.1) c.requires
    (omega (arith, c.len-count.ensures.len, c.len-count.ensures.fits)) put).1
