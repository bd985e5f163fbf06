use Rattle.std.proofs.Common.{take}
use Rattle.tree_walk.specs.Pins.{AreFresh}
use Rattle.tree_walk.proofs.unpinned.Given as goal

abbrev pub invariant-loop-reference : goal.invariant-loop-reference
invariant-loop-reference l = AreFresh l.pinned (take l.reference-index l.passed) l.fresh.items
