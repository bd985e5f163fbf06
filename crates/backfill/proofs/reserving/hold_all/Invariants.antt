use Rattle.std.proofs.Common.{◌≡◌, ◌<◌, take}
use Rattle.std.specs.List.{AllByRecursion as Each}
use Rattle.job_rules.specs.Fits.{nodes_of}
use Rattle.backfill.specs.Held.{held_at}
use Rattle.backfill.proofs.reserving.hold_all.Given as goal

abbrev pub invariant-loop-place : goal.invariant-loop-place
invariant-loop-place l = record {
  grant : l.graph.grant ≡ l.initial.graph.grant;
  nodes : nodes_of l.graph.live ≡ nodes_of (held_at l.second (take l.place l.live));
  ids : Each (λ h. h.id < l.place) l.graph.live;
}
