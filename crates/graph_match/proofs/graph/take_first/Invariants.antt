use Rattle.std.proofs.Common.{◌-◌, length}
use Rattle.graph_match.proofs.Turns.{IsFitting}
use Rattle.graph_match.proofs.graph.take_first.Given as goal

abbrev pub invariant-loop-at : goal.invariant-loop-at
invariant-loop-at l = IsFitting l.spec l.places l.at l.left l.nodes

abbrev pub decreases-loop-at : goal.decreases-loop-at
decreases-loop-at l = length l.hosts - l.at
