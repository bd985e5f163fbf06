use Rattle.fl_digest.specs.declared.Hash.TheVariants as hash
use Rattle.tree_rules.specs.Held.{IsRootIn}
use Rattle.tree_store.specs.Landing.{table}
use Rattle.tree_tests.proofs.transactions.decoded_directories_change_no_answer.Given as goal

abbrev pub invariant-loop-number : goal.invariant-loop-number
invariant-loop-number g l = IsRootIn hash.Sha1 (table l.blobs) l.root × IsRootIn hash.Sha1 (table l.others) l.other
