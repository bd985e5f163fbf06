use Rattle.std.proofs.Common.{◌≡◌, map, take}
use Rattle.graph_match.specs.Places.{free_node}
use Rattle.graph_match.specs.Rooms.{room_of}
use Rattle.graph_match.proofs.graph.rooms.Given as goal

abbrev pub invariant-loop-place : goal.invariant-loop-place
invariant-loop-place l = l.rooms.items ≡ map room_of (map free_node (take l.place-index l.places))
