use Rattle.std.proofs.Common.{◌-◌, length}
use Rattle.job_rules.specs.Worths.{wanted}
use Rattle.graph_match.specs.Places.{free_node, node_of}
use Rattle.graph_match.specs.Rooms.{room_of, worth_of}
use Rattle.graph_match.proofs.Turns.{IsLacking}
use Rattle.graph_match.proofs.graph.is_busy.Given as goal

abbrev pub invariant-loop-at : goal.invariant-loop-at
invariant-loop-at l = IsLacking (λ p. worth_of l.spec (room_of (node_of p)) (room_of (free_node p))) l.places l.at l.lacking (wanted l.spec)

abbrev pub decreases-loop-at : goal.decreases-loop-at
decreases-loop-at l = length l.hosts - l.at
