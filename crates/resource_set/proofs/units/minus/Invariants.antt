use Rattle.std.proofs.Common.{◌≡◌, map, take}
use Rattle.resource_set.specs.Units.{without_nodes}
use Rattle.resource_set.proofs.units.minus.Given as goal

abbrev pub invariant-loop-node : goal.invariant-loop-node
invariant-loop-node l = l.nodes ≡ map (without_nodes l.fn.b.nodes) (take l.node-index l.fn.a.nodes)
