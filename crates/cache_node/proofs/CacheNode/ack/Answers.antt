use Rattle.std.proofs.Common.{rules, ◌≡◌, ◌∷◌, ◌∙◌, Some, None, sym, ap}
use Rattle.std.specs.Map.{lookup, remove_entry}
use Rattle.lru.specs.LruCache.{lru_cache}
use Rattle.fl_digest.specs.Reference.{same_reference}
use Rattle.cache_node.specs.Order.{unpinned}
use Rattle.cache_node.specs.Cache.{dirty_at}
use Rattle.cache_node.proofs.Caches.{named_dirty, unchanged, still_open, acked_dirty, acked_open, taken_back, acknowledged_none, acknowledged_some}
use Rattle.cache_node.proofs.CacheNode.ack.Goals as goal

pub invariant_of-self : goal.invariant_of-self
invariant_of-self c =
    let absent : lookup (same_reference c.args.reference.now) c.self.inside.dirty.entries ≡ None = search rules in
    still_open c.self.inside.dirty c.exchange.new.dirty c.self.inside.clean c.args.reference.now c.new-blank.result c.self.invariant c.exchange.ensures.entries absent

pub returns-in_default-clause-clean : goal.returns-in_default-clause-clean
returns-in_default-clause-clean c =
    let absent : lookup (same_reference c.args.reference.now) c.self.inside.dirty.entries ≡ None = search rules in
    let same = unchanged c.self.inside.dirty c.exchange.new.dirty c.self.inside.clean c.args.reference.now c.new-blank.result c.self.invariant c.exchange.ensures.entries absent in
    ap (λ d. record { dirty = d.entries; clean = c.self.inside.clean }) same ∙ c.self.view_is
    ∙ acknowledged_none c.args.reference.now c.args.self.now (ap (dirty_at c.args.reference.now) (sym c.self.view_is) ∙ absent)

pub add-requires-clause-named : goal.add-requires-clause-named
add-requires-clause-named c =
    let found : lookup (same_reference c.args.reference.now) c.self.inside.dirty.entries ≡ Some c.in-Some.bytes = search rules in
    rw c.new.ensures (named_dirty c.self.inside.dirty.entries c.args.reference.now c.in-Some.bytes c.self.invariant.0.named found)

pub invariant_of-self-in-Ok : goal.invariant_of-self-in-Ok
invariant_of-self-in-Ok c =
    let found : lookup (same_reference c.args.reference.now) c.self.inside.dirty.entries ≡ Some c.in-Some.bytes = search rules in
    let out : c.pop.new.self ≡ lru_cache (remove_entry (same_reference c.args.reference.now) c.exchange.new.dirty.entries) c.exchange.new.dirty.cap = search rules in
    let added : c.add.new.self ≡ (c.args.reference.now, unpinned c.in-Some.bytes) ∷ c.self.inside.clean = search rules in
    acked_open c.self.inside.dirty c.exchange.new.dirty c.self.inside.clean c.args.reference.now c.new-blank.result c.self.invariant c.exchange.ensures.entries c.in-Some.bytes found c.pop.new.self c.add.new.self out added

pub returns-in-Ok-clause-clean : goal.returns-in-Ok-clause-clean
returns-in-Ok-clause-clean c =
    let found : lookup (same_reference c.args.reference.now) c.self.inside.dirty.entries ≡ Some c.in-Some.bytes = search rules in
    let out : c.pop.new.self ≡ lru_cache (remove_entry (same_reference c.args.reference.now) c.exchange.new.dirty.entries) c.exchange.new.dirty.cap = search rules in
    let added : c.add.new.self ≡ (c.args.reference.now, unpinned c.in-Some.bytes) ∷ c.self.inside.clean = search rules in
    let dirty = acked_dirty c.self.inside.dirty c.exchange.new.dirty c.self.inside.clean c.args.reference.now c.new-blank.result c.self.invariant c.exchange.ensures.entries c.in-Some.bytes found c.pop.new.self out in
    ap (λ d. record { dirty = d.entries; clean = c.add.new.self }) dirty
    ∙ ap (λ l. record { dirty = remove_entry (same_reference c.args.reference.now) c.self.inside.dirty.entries; clean = l }) added
    ∙ ap (λ n. record { dirty = remove_entry (same_reference c.args.reference.now) n.dirty; clean = (c.args.reference.now, unpinned c.in-Some.bytes) ∷ n.clean }) c.self.view_is
    ∙ acknowledged_some c.args.reference.now c.args.self.now c.in-Some.bytes (ap (dirty_at c.args.reference.now) (sym c.self.view_is) ∙ found)

pub invariant_of-self-in-Err : goal.invariant_of-self-in-Err
invariant_of-self-in-Err c =
    let found : lookup (same_reference c.args.reference.now) c.self.inside.dirty.entries ≡ Some c.in-Some.bytes = search rules in
    let back : c.in-Err.refused.value.bytes ≡ c.in-Some.bytes = search rules in
    let kept : c.add.new.self ≡ c.self.inside.clean = search rules in
    let again = taken_back c.self.inside.dirty c.exchange.new.dirty c.self.inside.clean c.args.reference.now c.new-blank.result c.self.invariant c.exchange.ensures.entries c.in-Some.bytes found c.exchange-in-Err.new.dirty c.in-Err.refused.value.bytes back c.exchange-in-Err.ensures.entries in
    rw (again, kept) c.self.invariant

pub returns-in-Err-clause-kept : goal.returns-in-Err-clause-kept
returns-in-Err-clause-kept c =
    let found : lookup (same_reference c.args.reference.now) c.self.inside.dirty.entries ≡ Some c.in-Some.bytes = search rules in
    let back : c.in-Err.refused.value.bytes ≡ c.in-Some.bytes = search rules in
    let kept : c.add.new.self ≡ c.self.inside.clean = search rules in
    let again = taken_back c.self.inside.dirty c.exchange.new.dirty c.self.inside.clean c.args.reference.now c.new-blank.result c.self.invariant c.exchange.ensures.entries c.in-Some.bytes found c.exchange-in-Err.new.dirty c.in-Err.refused.value.bytes back c.exchange-in-Err.ensures.entries in
    ap (λ d. record { dirty = d.entries; clean = c.add.new.self }) again
    ∙ ap (λ l. record { dirty = c.self.inside.dirty.entries; clean = l }) kept ∙ c.self.view_is
