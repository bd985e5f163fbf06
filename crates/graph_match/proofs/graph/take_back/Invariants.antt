use Rattle.std.proofs.Common.{List, ◌++◌, map, take}
use Rattle.resource_set.specs.declared.node.Node.{Node}
use Rattle.job_rules.specs.Fits.{AreApart}
use Rattle.graph_match.specs.Places.{node_of}
use Rattle.graph_match.specs.Rooms.{AreRooms}
use Rattle.graph_match.proofs.graph.take_back.Given as goal

abbrev pub invariant-loop-node : goal.invariant-loop-node
invariant-loop-node l = (others : List Node) → AreApart l.nodes others → AreRooms l.spec (map node_of l.places) others l.initial.rooms l.initial.sum → AreRooms l.spec (map node_of l.places) (take l.node-index l.nodes ++ others) l.rooms l.sum
