-- What a transaction does to the blobs of a store.
use Rattle.std.specs.Prelude.{◌≡◌, ◌++◌, ℕ, List, Option, Some, None, Result, Ok, Err, ⊤}
use Rattle.fl_digest.specs.declared.BlobRef.{BlobRef}
use Rattle.fl_digest.specs.declared.Hash.{Hash}
use Rattle.kvs_txn.specs.declared.answers.Refusal.{Refusal}
use Rattle.kvs_model.specs.Store.{Store, empty_store}
use Rattle.kvs_model.specs.History.{first_store}
use Rattle.blob_store.specs.Blobs.{blob_at}
use Rattle.tree_rules.specs.Held.{Table, IsRootOf, Adds, IsClash}
use Rattle.tree_store.specs.declared.faults.TreeFault.{TreeFault}
use Rattle.tree_store.specs.declared.faults.TreeFault.TheVariants.{NoMemory, Refused, Clash}

-- the contents of a store of blobs as a table
abbrev pub table : List (BlobRef × List ℕ) → Table
table contents reference = blob_at reference contents

-- the first store of a namespace: with the grant in `primary`, and without in every other
abbrev pub opening : Option (List ℕ) → Store
opening (Some grant) = first_store grant
opening None = empty_store

-- contents are added behind those that there were, which are blobs of this store; none where there
-- is no store
abbrev pub AddsAtMost : Hash → List (BlobRef × List ℕ)
    → List (BlobRef × List ℕ) → Result Store Refusal → Type 0
AddsAtMost hash before after (Ok st) = Adds hash st (table before) (table after)
    × (more : List (BlobRef × List ℕ)) × (after ≡ before ++ more)
AddsAtMost hash before after (Err refusal) = after ≡ before

-- a fault that is a clash is one of this store; no other than want of memory
abbrev pub IsClashIn : Hash → Store → Table → TreeFault → Type 0
IsClashIn hash st table NoMemory = ⊤
IsClashIn hash st table (Refused refusal) = ⊥
IsClashIn hash st table (Clash reference kept offered) =
    IsClash hash st table reference kept offered

-- what becomes of the blobs where this store is wanted, or where there is none for this reason
abbrev pub Leaves : Hash → List (BlobRef × List ℕ)
    → List (BlobRef × List ℕ) → Result Store Refusal → Result BlobRef TreeFault → Type 0
Leaves hash before after wanted (Ok root) = (st : Store)
    × (wanted ≡ Ok st) × IsRootOf hash (table after) root st × AddsAtMost hash before after (Ok st)
Leaves hash before after wanted (Err NoMemory) = AddsAtMost hash before after wanted
Leaves hash before after wanted (Err (Refused refusal)) = (wanted ≡ Err refusal) × (after ≡ before)
Leaves hash before after wanted (Err (Clash reference kept offered)) = (st : Store)
    × (wanted ≡ Ok st) × IsClash hash st (table before) reference kept offered × (after ≡ before)
