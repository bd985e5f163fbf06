use Rattle.std.proofs.Common.{ℕ, ◌≤◌, ◌<◌, ◌-◌}
use Rattle.backfill.specs.Reserved.{FitsAt}
use Rattle.backfill.proofs.reserving.least_fitting.Given as goal

abbrev pub invariant-loop-low : goal.invariant-loop-low
invariant-loop-low l = record {
  from : l.now ≤ l.low;
  order : l.low ≤ l.high;
  fits : FitsAt l.spec l.graph.grant l.live l.high;
  least : (sooner : ℕ) → l.now ≤ sooner → sooner < l.low → FitsAt l.spec l.graph.grant l.live sooner → ⊥;
}

abbrev pub decreases-loop-low : goal.decreases-loop-low
decreases-loop-low l = l.high - l.low
