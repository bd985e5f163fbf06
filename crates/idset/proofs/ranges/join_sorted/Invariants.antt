use Rattle.std.proofs.Common.{drop}
use Rattle.idset.proofs.Joins.{IsJoining}
use Rattle.idset.proofs.ranges.join_sorted.Given as goal

abbrev pub invariant-loop-range : goal.invariant-loop-range
invariant-loop-range l = IsJoining l.initial.lead l.rest l.done.items l.lead (drop l.range-index l.rest)
