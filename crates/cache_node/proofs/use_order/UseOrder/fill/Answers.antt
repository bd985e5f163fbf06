use Rattle.std.proofs.Common.{rules, ◌≡◌, ◌+◌, ◌∷◌, Some, None}
use Rattle.std.specs.Map.{lookup}
use Rattle.fl_digest.specs.Reference.{same_reference}
use Rattle.cache_node.specs.declared.TheConstants.{UNPINNED_LIMIT}
use Rattle.cache_node.specs.Order.{unpinned, used, stays_within, dropped}
use Rattle.cache_node.proofs.Sums.{used_sum, new_sum, refilled_rest, filled_rest}
use Rattle.cache_node.proofs.use_order.UseOrder.fill.Goals as goal

pub surplus-requires : goal.surplus-requires
surplus-requires c =
    let found : lookup (same_reference c.args.reference.now) c.self.inside.entries.entries ≡ Some c.in-Some.held.now = search rules in
    used_sum c.self.inside.entries.entries c.args.self.now c.self.inside.total c.self.inside.loose c.args.reference.now c.in-Some.held.now c.self.invariant.0 c.self.view_is found

pub returns-in-Some-clause-rest : goal.returns-in-Some-clause-rest
returns-in-Some-clause-rest c =
    let found : lookup (same_reference c.args.reference.now) c.self.inside.entries.entries ≡ Some c.in-Some.held.now = search rules in
    let gone : c.in_ok-gone.gone ≡ dropped (stays_within UNPINNED_LIMIT) (used c.args.reference.now c.in-Some.held.now c.args.self.now) = search rules in
    refilled_rest (stays_within UNPINNED_LIMIT) c.self.inside.entries.entries c.args.self.now c.touch.new.self c.remove_all.new.self c.self.inside.total c.self.inside.loose c.in_ok-gone.gone c.args.reference.now c.args.bytes c.in-Some.held.now
    c.self.invariant.0 c.self.view_is found (search rules) gone c.remove_all.ensures

pub surplus-requires-2 : goal.surplus-requires-2
surplus-requires-2 c =
    let absent : lookup (same_reference c.args.reference.now) c.self.inside.entries.entries ≡ None = search rules in
    let sum : c.in-Some-checked_add.loose ≡ c.self.inside.loose + c.size.result = c.in-Some-checked_add.ensures.1 in
    new_sum c.self.inside.entries.entries c.args.self.now c.self.inside.total c.self.inside.loose c.in-Some-checked_add.loose c.size.result c.args.reference.now c.new-held.result c.args.bytes c.self.invariant.0 c.self.view_is absent c.new-held.ensures sum c.size.ensures

pub returns-clause-rest : goal.returns-clause-rest
returns-clause-rest c =
    let absent : lookup (same_reference c.args.reference.now) c.self.inside.entries.entries ≡ None = search rules in
    let gone : c.in_ok-gone-2.gone ≡ dropped (stays_within UNPINNED_LIMIT) (used c.args.reference.now (unpinned c.args.bytes) c.args.self.now) = search rules in
    let added : c.add.new.self ≡ (c.args.reference.now, unpinned c.args.bytes) ∷ c.args.self.now = search rules in
    filled_rest (stays_within UNPINNED_LIMIT) c.self.inside.entries.entries c.args.self.now c.add.new.self c.remove_all-2.new.self c.self.inside.total c.self.inside.loose c.in_ok-gone-2.gone c.args.reference.now c.args.bytes
    c.self.invariant.0 c.self.view_is absent added gone c.remove_all-2.ensures
