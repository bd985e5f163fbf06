use Rattle.std.proofs.Common.{drop}
use Rattle.idset.proofs.Walks.{IsListing}
use Rattle.idset.proofs.ranges.list.Given as goal

abbrev pub invariant-loop-range : goal.invariant-loop-range
invariant-loop-range l = IsListing l.ranges l.ids.items (drop l.range-index l.ranges)
