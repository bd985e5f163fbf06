use Rattle.std.proofs.Common.{◌≡◌, take}
use Rattle.cache_node.specs.Order.{without}
use Rattle.cache_node.proofs.use_order.UseOrder.remove_all.Given as goal

abbrev pub invariant-loop-reference : goal.invariant-loop-reference
invariant-loop-reference l = l.self ≡ without (take l.reference-index l.reference-items) l.fn.self
