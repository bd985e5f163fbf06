use Rattle.std.proofs.Common.{◌≡◌, take}
use Rattle.std.specs.Prelude.{flat_map}
use Rattle.run_picture.specs.Shown.{places_of_node}
use Rattle.run_picture.proofs.drawing.places_of.Given as goal

abbrev pub invariant-loop-node : goal.invariant-loop-node
invariant-loop-node l = l.places ≡ flat_map (places_of_node l.rows) (take l.node-index l.grant.nodes)
