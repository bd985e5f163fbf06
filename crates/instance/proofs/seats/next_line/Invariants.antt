use Rattle.std.proofs.Common.{ℕ, ◌-◌, ◌<◌, ◌≤◌, length}
use Rattle.std.specs.Prelude.{◌≢◌, slice_index_or}
use Rattle.services.specs.workload.declared.work.Line.{Line}
use Rattle.instance.proofs.seats.next_line.Given as goal

abbrev pub invariant-loop-at : goal.invariant-loop-at
invariant-loop-at l = record {
  within : (l.from ≤ l.at) × (l.at ≤ length l.lines);
  passed : (k : ℕ) (d : Line) → l.from ≤ k → k < l.at → (slice_index_or l.lines k d).actor ≢ l.actor;
}

abbrev pub decreases-loop-at : goal.decreases-loop-at
decreases-loop-at l = length l.lines - l.at
