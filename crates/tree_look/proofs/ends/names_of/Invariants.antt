use Rattle.std.proofs.Common.{◌≡◌, take, map}
use Rattle.tree_rules.specs.Objects.{listed}
use Rattle.tree_look.specs.Legs.{shown}
use Rattle.tree_look.proofs.ends.names_of.Given as goal

abbrev pub invariant-loop-index : goal.invariant-loop-index
invariant-loop-index l = l.list ≡ map shown (take l.index (listed l.directory))
