use Rattle.std.proofs.Common.{drop}
use Rattle.idset.proofs.Gaps.{IsFilling}
use Rattle.idset.proofs.ranges.gaps.Given as goal

abbrev pub invariant-loop-range : goal.invariant-loop-range
invariant-loop-range l = IsFilling l.ranges l.gaps.items l.next (drop l.range-index l.ranges)
