use Rattle.std.proofs.Common.{arith, rules, ◌≡◌, Some}
use Rattle.std.specs.Map.{lookup}
use Rattle.fl_digest.specs.Reference.{same_reference}
use Rattle.cache_node.specs.Order.{unpinned_size}
use Rattle.cache_node.proofs.Sums.{within_sum, kept_released, released_fits}
use Rattle.cache_node.proofs.use_order.UseOrder.unpin.Goals as goal

pub overflow_sub-self : goal.overflow_sub-self
overflow_sub-self c =
    let found : lookup (same_reference c.args.reference.now) c.self.inside.entries.entries ≡ Some c.in-Some.held.now = search rules in
    omega (arith, within_sum unpinned_size c.args.reference.now c.self.inside.entries.entries c.in-Some.held.now c.self.inside.loose c.self.invariant.0.loose_sum found)

pub overflow_add-self : goal.overflow_add-self
overflow_add-self c =
    let found : lookup (same_reference c.args.reference.now) c.self.inside.entries.entries ≡ Some c.in-Some.held.now = search rules in
    omega (arith, released_fits c.self.inside.entries.entries c.self.inside.total c.self.inside.loose c.args.reference.now c.in-Some.held.now c.release.new.self c.self.invariant.0 found c.release.ensures)

pub invariant_of-self-2 : goal.invariant_of-self-2
invariant_of-self-2 c =
    let found : lookup (same_reference c.args.reference.now) c.self.inside.entries.entries ≡ Some c.in-Some.held.now = search rules in
    (kept_released c.self.inside.entries.entries c.self.inside.total c.self.inside.loose c.args.reference.now c.in-Some.held.now c.release.new.self c.unpinned_size-before.result c.unpinned_size-after.result c.self.invariant.0 found c.release.ensures c.unpinned_size-before.ensures c.unpinned_size-after.ensures, c.self.invariant.1)
