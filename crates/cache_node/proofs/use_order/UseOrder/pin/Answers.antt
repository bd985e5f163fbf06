use Rattle.std.proofs.Common.{arith, rules, ◌≡◌, Some}
use Rattle.std.specs.Map.{lookup}
use Rattle.fl_digest.specs.Reference.{same_reference}
use Rattle.cache_node.specs.Order.{unpinned_size}
use Rattle.cache_node.proofs.Sums.{within_sum, kept_pinned, pinned_is}
use Rattle.cache_node.proofs.use_order.UseOrder.pin.Goals as goal

pub overflow_sub-self : goal.overflow_sub-self
overflow_sub-self c =
    let found : lookup (same_reference c.args.reference.now) c.self.inside.entries.entries ≡ Some c.in-Some.held.now = search rules in
    omega (arith, within_sum unpinned_size c.args.reference.now c.self.inside.entries.entries c.in-Some.held.now c.self.inside.loose c.self.invariant.0.loose_sum found)

pub invariant_of-self-2 : goal.invariant_of-self-2
invariant_of-self-2 c =
    let found : lookup (same_reference c.args.reference.now) c.self.inside.entries.entries ≡ Some c.in-Some.held.now = search rules in
    (kept_pinned c.self.inside.entries.entries c.self.inside.total c.self.inside.loose c.args.reference.now c.in-Some.held.now c.pin.new.self c.unpinned_size-size.result c.self.invariant.0 found c.pin.ensures c.unpinned_size-size.ensures, c.self.invariant.1)

pub returns-clause-pinned : goal.returns-clause-pinned
returns-clause-pinned c =
    let found : lookup (same_reference c.args.reference.now) c.self.inside.entries.entries ≡ Some c.in-Some.held.now = search rules in
    pinned_is c.self.inside.entries.entries c.args.self.now c.args.reference.now c.in-Some.held.now c.pin.new.self c.self.view_is found c.pin.ensures
