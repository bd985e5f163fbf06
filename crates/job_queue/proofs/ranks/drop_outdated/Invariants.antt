use Rattle.std.proofs.Common.{◌≡◌, heap_len}
use Rattle.std.specs.BinaryHeap.{heap_items, heap_capacity}
use Rattle.job_queue.specs.Ranks.{IsRanked, IsInOrder}
use Rattle.job_queue.proofs.ranks.drop_outdated.Given as goal

abbrev pub invariant-loop-top : goal.invariant-loop-top
invariant-loop-top l = IsRanked l.priorities (heap_items l.ranks) × IsInOrder (heap_items l.ranks) × (heap_capacity l.ranks ≡ heap_capacity l.initial.ranks)

abbrev pub decreases-loop-top : goal.decreases-loop-top
decreases-loop-top l = heap_len l.ranks
