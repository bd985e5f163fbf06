use Rattle.std.proofs.Common.{rules, ◌≡◌, option_copied}
use Rattle.std.specs.Map.{lookup}
use Rattle.fl_digest.specs.Reference.{same_reference}
use Rattle.cache_node.proofs.Sums.{found_named}
use Rattle.cache_node.proofs.use_order.UseOrder.get.Goals as goal

pub returns-clause-named : goal.returns-clause-named
returns-clause-named c =
    let found : option_copied c.peek.result ≡ lookup (same_reference c.args.reference.now) c.self.inside.entries.entries = search rules in
    found_named c.self.inside.entries.entries c.args.reference.now c.peek.result c.self.invariant.0.named found
