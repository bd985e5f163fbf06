use Rattle.std.proofs.Common.{drop}
use Rattle.idset.proofs.Walks.{IsCounting}
use Rattle.idset.proofs.ranges.count_in.Given as goal

abbrev pub invariant-loop-range : goal.invariant-loop-range
invariant-loop-range l = IsCounting l.ranges l.count (drop l.range-index l.ranges)
