use Rattle.job_rules.specs.Worths.{wanted}
use Rattle.graph_match.specs.Places.{node_of}
use Rattle.graph_match.specs.Rooms.{room_of, worth_of}
use Rattle.graph_match.proofs.Turns.{IsLacking}
use Rattle.graph_match.proofs.graph.is_small.Given as goal

abbrev pub invariant-loop-place : goal.invariant-loop-place
invariant-loop-place l = IsLacking (λ p. worth_of l.spec (room_of (node_of p)) (room_of (node_of p))) l.places l.place-index l.lacking (wanted l.spec)
