use Rattle.std.proofs.Common.{◌≡◌, ◌++◌, not, length, reverse, filter}
use Rattle.std.specs.Map.{keys_of}
use Rattle.cache_node.specs.Order.{is_pinned}
use Rattle.cache_node.proofs.use_order.UseOrder.drop_unpinned.Given as goal

abbrev pub invariant-loop-key : goal.invariant-loop-key
invariant-loop-key l = l.gone ++ keys_of (filter (λ e. not (is_pinned e.1)) (reverse l.walk)) ≡ keys_of (filter (λ e. not (is_pinned e.1)) (reverse l.fn.self))

abbrev pub decreases-loop-key : goal.decreases-loop-key
decreases-loop-key l = length l.walk
