use Rattle.std.proofs.Common.{◌≡◌, take}
use Rattle.resource_set.specs.Reading.{nodes_with}
use Rattle.resource_set.proofs.placing.joined.Given as goal

abbrev pub invariant-loop-i : goal.invariant-loop-i
invariant-loop-i l = l.nodes.items ≡ take l.i (nodes_with l.entries l.ranks l.hosts)
