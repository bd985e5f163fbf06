use Rattle.std.proofs.Common.{◌≢◌, ◌-◌, ◌<◌, ◌≤◌, ℕ, length}
use Rattle.std.specs.Prelude.{slice_index_or}
use Rattle.instance.specs.workload.declared.work.Line.{Line}
use Rattle.homes.proofs.homes.next_line.Given as goal

abbrev pub invariant-loop-at : goal.invariant-loop-at
invariant-loop-at l = record {
  low : l.from ≤ l.at;
  high : l.at ≤ length l.lines;
  passed : (k : ℕ) (d : Line) → l.from ≤ k → k < l.at → (slice_index_or l.lines k d).actor ≢ l.actor;
}

abbrev pub decreases-loop-at : goal.decreases-loop-at
decreases-loop-at l = length l.lines - l.at
