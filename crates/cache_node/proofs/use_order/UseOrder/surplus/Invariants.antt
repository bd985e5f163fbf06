use Rattle.std.proofs.Common.{length}
use Rattle.cache_node.specs.declared.TheConstants.{UNPINNED_LIMIT}
use Rattle.cache_node.proofs.Walk.{IsListed}
use Rattle.cache_node.proofs.use_order.UseOrder.surplus.Given as goal

abbrev pub invariant-loop-left : goal.invariant-loop-left
invariant-loop-left l = IsListed UNPINNED_LIMIT (l.reference, l.held) l.self l.walk l.left l.gone

abbrev pub decreases-loop-left : goal.decreases-loop-left
decreases-loop-left l = length l.walk
