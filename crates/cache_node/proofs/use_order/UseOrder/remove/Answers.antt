use Rattle.std.proofs.Common.{arith, rules, ◌≡◌, Some, None}
use Rattle.std.specs.Map.{lookup, remove_entry}
use Rattle.lru.specs.LruCache.{lru_cache}
use Rattle.fl_digest.specs.Reference.{same_reference}
use Rattle.cache_node.specs.Order.{unpinned_size}
use Rattle.cache_node.proofs.Sums.{size, within_sum, open_removed, open_unremoved}
use Rattle.cache_node.proofs.use_order.UseOrder.remove.Goals as goal

pub overflow_sub-self : goal.overflow_sub-self
overflow_sub-self c =
    let found : lookup (same_reference c.args.reference.now) c.self.inside.entries.entries ≡ Some c.in-Some.held = search rules in
    omega (arith, within_sum size c.args.reference.now c.self.inside.entries.entries c.in-Some.held c.self.inside.total c.self.invariant.0.total_sum found)

pub overflow_sub-self-in-Some : goal.overflow_sub-self-in-Some
overflow_sub-self-in-Some c =
    let found : lookup (same_reference c.args.reference.now) c.self.inside.entries.entries ≡ Some c.in-Some.held = search rules in
    omega (arith, within_sum unpinned_size c.args.reference.now c.self.inside.entries.entries c.in-Some.held c.self.inside.loose c.self.invariant.0.loose_sum found)

pub invariant_of-self : goal.invariant_of-self
invariant_of-self c =
    let found : lookup (same_reference c.args.reference.now) c.self.inside.entries.entries ≡ Some c.in-Some.held = search rules in
    let out : c.pop.new.self ≡ lru_cache (remove_entry (same_reference c.args.reference.now) c.self.inside.entries.entries) c.self.inside.entries.cap = search rules in
    rw (c.size.ensures, c.unpinned_size.ensures)
    (open_removed c.self.inside.entries c.pop.new.self c.self.inside.total c.self.inside.loose c.args.reference.now c.in-Some.held c.self.invariant found out)

pub invariant_of-self-in_default : goal.invariant_of-self-in_default
invariant_of-self-in_default c =
    let absent : lookup (same_reference c.args.reference.now) c.self.inside.entries.entries ≡ None = search rules in
    let out : c.pop.new.self ≡ lru_cache (remove_entry (same_reference c.args.reference.now) c.self.inside.entries.entries) c.self.inside.entries.cap = search rules in
    open_unremoved c.self.inside.entries c.pop.new.self c.self.inside.total c.self.inside.loose c.args.reference.now c.self.invariant absent out
