use Rattle.std.proofs.Common.{◌≤◌, ◌+◌, length, heap_len}
use Rattle.std.specs.BinaryHeap.{heap_items, heap_capacity}
use Rattle.std.specs.BTreeMap.{btree_map_len}
use Rattle.job_queue.specs.Ranks.{IsInOrder}
use Rattle.job_queue.proofs.Ranking.{IsRankedOrLeft}
use Rattle.job_queue.proofs.ranks.rank_all.Given as goal

abbrev pub invariant-loop-id : goal.invariant-loop-id
invariant-loop-id l = IsInOrder (heap_items l.ranks) × (heap_len l.ranks + length l.id-iterator ≤ btree_map_len l.priorities) × (heap_capacity l.initial.ranks ≤ heap_capacity l.ranks) × IsRankedOrLeft l.priorities.entries l.id-iterator (heap_items l.ranks)
