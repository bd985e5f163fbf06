use Rattle.std.proofs.Common.{◌≤◌, ◌<◌, take}
use Rattle.std.specs.List.{AllByRecursion as Each}
use Rattle.backfill.proofs.reserving.next_end.Given as goal

abbrev pub invariant-loop-hold : goal.invariant-loop-hold
invariant-loop-hold l = record {
  past : (l.second < l.next) × (l.next ≤ l.last);
  first : Each (λ h. l.second < h.until → l.next ≤ h.until) (take l.hold-index l.live);
}
