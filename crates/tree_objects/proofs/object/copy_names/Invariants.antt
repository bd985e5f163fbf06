use Rattle.std.proofs.Common.{◌≡◌, take}
use Rattle.tree_objects.proofs.object.copy_names.Given as goal

abbrev pub invariant-loop-name : goal.invariant-loop-name
invariant-loop-name l = l.twins.items ≡ take l.name-index l.names
