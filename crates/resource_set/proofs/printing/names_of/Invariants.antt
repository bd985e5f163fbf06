use Rattle.std.proofs.Common.{◌≡◌, map, take}
use Rattle.resource_set.proofs.printing.names_of.Given as goal

abbrev pub invariant-loop-node : goal.invariant-loop-node
invariant-loop-node l = l.hosts ≡ map (λ node. node.host) (take l.node-index l.nodes)
