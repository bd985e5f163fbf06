-- A root stays one.
use Rattle.std.proofs.Common.{◌≡◌, List, refl, sym, subst}
use Rattle.std.specs.Prelude.{Result, Ok, Err}
use Rattle.fl_digest.specs.declared.BlobRef.{BlobRef}
use Rattle.fl_digest.specs.declared.Hash.{Hash}
use Rattle.fl_digest.specs.Reference.{reference_of}
use Rattle.kvs_txn.specs.declared.answers.Refusal.{Refusal}
use Rattle.kvs_model.specs.Store.{Store}
use Rattle.tree_rules.specs.Held.{Keeps, IsRootOf, IsRootIn}
use Rattle.tree_store.specs.Fresh.{Blobs}
use Rattle.tree_store.specs.Landing.{table, AddsAtMost, Leaves}
use Rattle.tree_store.specs.declared.faults.TreeFault.{TreeFault}
use Rattle.tree_store.specs.declared.faults.TreeFault.TheVariants.{NoMemory, Refused, Clash}

root_kept : (h : Hash) (before after : Blobs) (root : BlobRef) (st : Store) → Keeps (table before) (table after) → IsRootOf h (table before) root st → IsRootIn h (table after) root
root_kept h before after root st keeps is = (st, record { store = is.store; storable = is.storable; reference = is.reference; held = λ bytes c. keeps (reference_of h bytes) bytes (is.held bytes c) })

same_keeps : (before after : Blobs) → after ≡ before → Keeps (table before) (table after)
same_keeps before after same = subst (λ (xs : Blobs). Keeps (table before) (table xs)) (sym same) (λ reference bytes e. e)

most_keeps : (h : Hash) (before after : Blobs) (wanted : Result Store Refusal) → AddsAtMost h before after wanted → Keeps (table before) (table after)
most_keeps h before after (Ok st) adds = adds.0.kept
most_keeps h before after (Err refusal) same = same_keeps before after same

fault_keeps : (h : Hash) (before after : Blobs) (wanted : Result Store Refusal) (fault : TreeFault) → Leaves h before after wanted (Err fault) → Keeps (table before) (table after)
fault_keeps h before after wanted NoMemory leaves = most_keeps h before after wanted leaves
fault_keeps h before after wanted (Refused refusal) leaves = same_keeps before after leaves.1
fault_keeps h before after wanted (Clash reference kept offered) leaves = same_keeps before after leaves.3

-- after a fault the old root is one still
pub old_root : (h : Hash) (before after : Blobs) (wanted : Result Store Refusal) (fault : TreeFault) (root : BlobRef) (st : Store) → Leaves h before after wanted (Err fault) → IsRootOf h (table before) root st → IsRootIn h (table after) root
old_root h before after wanted fault root st leaves is = root_kept h before after root st (fault_keeps h before after wanted fault leaves) is

pub new_root : (h : Hash) (before after : Blobs) (wanted : Result Store Refusal) (root : BlobRef) → Leaves h before after wanted (Ok root) → IsRootIn h (table after) root
new_root h before after wanted root leaves = (leaves.0, leaves.2)
