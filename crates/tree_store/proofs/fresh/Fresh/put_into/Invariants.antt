use Rattle.std.proofs.Common.{◌≡◌, ◌++◌}
use Rattle.tree_store.specs.Fresh.{AreNew, Blobs}
use Rattle.tree_store.proofs.fresh.Fresh.put_into.Given as goal

-- the first of the blobs are put, and the others are new
abbrev pub invariant-loop-reference : goal.invariant-loop-reference
invariant-loop-reference l = (first : Blobs) × (l.fn.self ≡ first ++ l.reference-iterator) × (l.store ≡ l.fn.store ++ first) × AreNew l.store l.reference-iterator
