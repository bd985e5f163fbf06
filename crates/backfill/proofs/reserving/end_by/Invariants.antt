use Rattle.std.proofs.Common.{◌≤◌, take}
use Rattle.std.specs.List.{AllByRecursion as Each}
use Rattle.backfill.proofs.reserving.end_by.Given as goal

abbrev pub invariant-loop-hold : goal.invariant-loop-hold
invariant-loop-hold l = record {
  by : (l.first ≤ l.end) × (l.end ≤ l.second);
  last : Each (λ h. h.until ≤ l.second → h.until ≤ l.end) (take l.hold-index l.live);
}
