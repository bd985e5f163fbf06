use Rattle.fl_digest.specs.declared.Hash.TheVariants as hash
use Rattle.tree_rules.specs.Held.{IsRootIn}
use Rattle.tree_store.specs.Landing.{table}
use Rattle.tree_tests.proofs.walks.drawn_stores_are_read_as_in_memory.Given as goal

abbrev pub invariant-loop-number : goal.invariant-loop-number
invariant-loop-number g l = IsRootIn hash.Sha1 (table l.blobs) l.root
