use Rattle.graph_match.proofs.Turns.{IsTurn}
use Rattle.graph_match.proofs.graph.mark_nodes.Given as goal

abbrev pub invariant-loop-node : goal.invariant-loop-node
invariant-loop-node l = IsTurn l.free l.nodes l.initial.places l.places l.node-index
