use Rattle.std.proofs.Common.{◌≡◌, drop}
use Rattle.tree_walk.specs.Walks.{with_pins}
use Rattle.tree_walk.proofs.pin.Given as goal

abbrev pub invariant-loop-reference : goal.invariant-loop-reference
invariant-loop-reference l = with_pins l.references l.initial.cache ≡ with_pins (drop l.reference-index l.references) l.cache
