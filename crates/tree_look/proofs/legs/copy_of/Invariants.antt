use Rattle.std.proofs.Common.{◌≡◌, take}
use Rattle.tree_look.proofs.legs.copy_of.Given as goal

abbrev pub invariant-loop-component : goal.invariant-loop-component
invariant-loop-component l = l.twin.items ≡ take l.component-index l.path
