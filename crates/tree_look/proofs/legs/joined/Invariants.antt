use Rattle.std.proofs.Common.{◌≡◌, ◌++◌, take}
use Rattle.tree_look.proofs.legs.joined.Given as goal

abbrev pub invariant-loop-component : goal.invariant-loop-component
invariant-loop-component l = l.whole.items ≡ l.front ++ take l.component-index l.back
