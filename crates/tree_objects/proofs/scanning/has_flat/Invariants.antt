use Rattle.std.proofs.Common.{drop}
use Rattle.tree_rules.specs.Objects.{listed}
use Rattle.tree_objects.proofs.Flat.{AreFlat}
use Rattle.tree_objects.proofs.scanning.has_flat.Given as goal

abbrev pub invariant-loop-index : goal.invariant-loop-index
invariant-loop-index l = AreFlat (drop l.index (listed l.directory)) → AreFlat (listed l.directory)
