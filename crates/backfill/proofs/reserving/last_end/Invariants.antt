use Rattle.std.proofs.Common.{◌≤◌, take}
use Rattle.std.specs.List.{AllByRecursion as Each}
use Rattle.backfill.proofs.reserving.last_end.Given as goal

abbrev pub invariant-loop-hold : goal.invariant-loop-hold
invariant-loop-hold l = record {
  from : l.now ≤ l.last;
  ended : Each (λ h. h.until ≤ l.last) (take l.hold-index l.live);
}
