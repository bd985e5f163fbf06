use Rattle.std.proofs.Common.{◌≡◌, ◌≤◌, ◌++◌, false, length}
use Rattle.std.specs.Prelude.{filter_map, slice_index_or}
use Rattle.hierarchy.specs.Inside.{marked_below}
use Rattle.homes.specs.Inside.{end_at}
use Rattle.homes.proofs.ends.tell_ends.Given as goal

abbrev pub invariant-loop-behind : goal.invariant-loop-behind
invariant-loop-behind l = (l.behind ≤ length l.marks)
    × (l.chronicle ++ filter_map (end_at l.homes) (marked_below (λ i. slice_index_or l.marks i false) l.behind)
    ≡ l.initial.chronicle ++ filter_map (end_at l.homes) (marked_below (λ i. slice_index_or l.marks i false) (length l.marks)))

abbrev pub decreases-loop-behind : goal.decreases-loop-behind
decreases-loop-behind l = l.behind
