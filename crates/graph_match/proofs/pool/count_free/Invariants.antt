use Rattle.std.proofs.Common.{◌≡◌, ◌≤◌, length, take}
use Rattle.std.specs.Prelude.{filter}
use Rattle.graph_match.proofs.pool.count_free.Given as goal

abbrev pub invariant-loop-spot : goal.invariant-loop-spot
invariant-loop-spot l = (l.count ≡ length (filter (λ s. s.free) (take l.spot-index l.spots))) × (l.count ≤ l.spot-index)
