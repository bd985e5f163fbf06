use Rattle.std.proofs.Common.{◌≡◌, ◌+◌, ◌*◌, ◌≤◌, drop}
use Rattle.job_rules.specs.Worths.{total}
use Rattle.graph_match.specs.Places.{free_node, node_of}
use Rattle.graph_match.specs.Rooms.{room_of, worth_of}
use Rattle.graph_match.proofs.graph.brings.Given as goal

abbrev pub invariant-loop-place : goal.invariant-loop-place
invariant-loop-place l = (l.sum + total (λ p. worth_of l.spec (room_of (node_of p)) (room_of (free_node p))) (drop l.place-index l.places) ≡ total (λ p. worth_of l.spec (room_of (node_of p)) (room_of (free_node p))) l.places) × (l.sum ≤ l.place-index * 65536)
