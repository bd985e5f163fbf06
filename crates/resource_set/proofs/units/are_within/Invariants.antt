use Rattle.std.proofs.Common.{◌≡◌, ◌≤◌, true, take, length}
use Rattle.std.specs.List.{list_all}
use Rattle.resource_set.specs.Units.{lies_on}
use Rattle.resource_set.proofs.units.are_within.Given as goal

abbrev pub invariant-loop-node : goal.invariant-loop-node
invariant-loop-node l = record {
  inside : list_all (lies_on l.whole) (take l.node-index l.part) ≡ true;
  next : l.next ≤ length l.whole;
}
