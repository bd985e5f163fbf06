use Rattle.std.proofs.Common.{map}
use Rattle.graph_match.specs.Places.{node_of}
use Rattle.graph_match.proofs.Blocking.{IsBlocking}
use Rattle.graph_match.proofs.graph.sift.Given as goal

abbrev pub invariant-loop-hold : goal.invariant-loop-hold
invariant-loop-hold l = IsBlocking l.spec (map node_of l.places) l.live l.hold-index l.list l.rooms l.sum
