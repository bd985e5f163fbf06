use Rattle.homes.proofs.Marking.{AreMarkedBefore}
use Rattle.homes.proofs.ends.within.Given as goal

abbrev pub invariant-loop-at : goal.invariant-loop-at
invariant-loop-at l = AreMarkedBefore l.number l.homes l.marks.items l.at
