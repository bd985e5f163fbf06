-- Blobs that are added behind those of a store.
use Rattle.std.specs.Prelude.{◌≡◌, ◌≢◌, ℕ, List, [], ◌∷◌, ◌++◌, Some, None, ⊤, Contains}
use Rattle.std.specs.List.{AllByRecursion}
use Rattle.fl_digest.specs.declared.BlobRef.{BlobRef}
use Rattle.fl_digest.specs.declared.Hash.{Hash}
use Rattle.fl_digest.specs.Reference.{reference_of}
use Rattle.blob_store.specs.Blobs.{blob_at}
use Rattle.tree_rules.specs.Objects.{Entries}
use Rattle.tree_store.specs.Shown.{long_values_at}
use Rattle.tree_store.specs.declared.faults.TreeFault.{TreeFault}
use Rattle.tree_store.specs.declared.faults.TreeFault.TheVariants.{NoMemory, Refused, Clash}

-- byte strings under references
abbrev pub Blobs : Type 0
Blobs = List (BlobRef × List ℕ)

-- nothing stands under the reference of any of these, neither in the store nor before it among them
abbrev pub AreNew : Blobs → Blobs → Type 0
AreNew store [] = ⊤
AreNew store (blob ∷ more) = (blob_at blob.0 store ≡ None) × AreNew (store ++ blob ∷ []) more

-- other bytes stand under the reference of these
abbrev pub IsClashOf : Hash → Blobs → List ℕ → TreeFault → Type 0
IsClashOf hash blobs bytes NoMemory = ⊤
IsClashOf hash blobs bytes (Refused refusal) = ⊥
IsClashOf hash blobs bytes (Clash reference kept offered) = (reference ≡ reference_of hash bytes)
    × (offered ≡ bytes) × (blob_at reference blobs ≡ Some kept) × (kept ≢ bytes)

-- the first of these blobs stand behind those of the store
abbrev pub IsPart : Blobs → Blobs → Blobs → Type 0
IsPart store blobs after = (first : Blobs) × (rest : Blobs)
    × (blobs ≡ first ++ rest) × (after ≡ store ++ first)

-- what is added are some of these byte strings, under their references
abbrev pub AddsSome : Hash → List (List ℕ) → Blobs → Blobs → Type 0
AddsSome hash allowed before after = (more : Blobs) × (after ≡ before ++ more)
    × AllByRecursion (λ blob. Contains allowed blob.1 × (blob.0 ≡ reference_of hash blob.1)) more

-- all of these byte strings are there, under their references
abbrev pub HasAll : Hash → List (List ℕ) → Blobs → Type 0
HasAll hash all blobs =
    AllByRecursion (λ bytes. blob_at (reference_of hash bytes) blobs ≡ Some bytes) all

-- the long value at a place of entries is there
abbrev pub HasLongAt : Hash → Entries → ℕ → Blobs → Type 0
HasLongAt hash es index blobs = HasAll hash (long_values_at index es) blobs

-- one of these byte strings clashes with other bytes
abbrev pub ClashesIn : Hash → List (List ℕ) → Blobs → TreeFault → Type 0
ClashesIn hash allowed blobs fault = (bytes : List ℕ)
    × Contains allowed bytes × IsClashOf hash blobs bytes fault
