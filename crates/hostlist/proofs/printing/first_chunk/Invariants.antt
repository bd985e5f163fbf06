use Rattle.std.proofs.Common.{◌≡◌, ℕ, ◌+◌, ◌-◌, ◌≤◌, ◌<◌, true, length, get_or, []}
use Rattle.hostlist.specs.Ties.{goes}
use Rattle.hostlist.proofs.printing.first_chunk.Given as goal

abbrev pub invariant-loop-at : goal.invariant-loop-at
invariant-loop-at l = record {
  some : 1 ≤ l.at;
  within : l.at ≤ length l.names;
  on : (k : ℕ) → k < l.at - 1 → goes l.tie (get_or l.names k []) (get_or l.names (k + 1) []) ≡ true;
}

abbrev pub decreases-loop-at : goal.decreases-loop-at
decreases-loop-at l = length l.names - l.at
