use Rattle.std.proofs.Common.{List, ◌++◌, map, drop}
use Rattle.resource_set.specs.declared.node.Node.{Node}
use Rattle.job_rules.specs.Fits.{AreApart}
use Rattle.graph_match.specs.Places.{node_of}
use Rattle.graph_match.specs.Rooms.{AreRooms}
use Rattle.graph_match.proofs.graph.add.Given as goal

abbrev pub invariant-loop-node : goal.invariant-loop-node
invariant-loop-node l = (others : List Node) → AreApart l.nodes others → AreRooms l.spec (map node_of l.places) (l.nodes ++ others) l.initial.rooms l.initial.sum → AreRooms l.spec (map node_of l.places) (drop l.node-index l.nodes ++ others) l.rooms l.sum
