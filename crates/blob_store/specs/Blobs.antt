-- The contents of a run, by their references.
use Rattle.std.specs.Prelude.{ℕ, ◌≡◌, ◌≢◌, List, [], ◌∷◌, ◌++◌, map, Option, Some, Result, IsErrAnd}
use Rattle.std.specs.List.{IsDistinct}
use Rattle.std.specs.Map.{lookup}
use Rattle.std.specs.Option.{option_map_or}
use Rattle.fl_digest.specs.declared.BlobRef.{BlobRef}
use Rattle.fl_digest.specs.Reference.{same_reference}
use Rattle.blob_store.specs.declared.BlobPair.{BlobPair}
use Rattle.blob_store.specs.declared.PutFault.{PutFault}
use Rattle.blob_store.specs.declared.PutFault.TheVariants.{NoMemory, Clash}

-- the bytes under a reference
abbrev pub blob_at : BlobRef → List (BlobRef × List ℕ) → Option (List ℕ)
blob_at reference store = lookup (same_reference reference) store

-- a store with these bytes under a reference: what stands there stays, and what is new goes last
abbrev pub stored : List (BlobRef × List ℕ) → BlobRef → List ℕ → List (BlobRef × List ℕ)
stored store reference bytes =
    option_map_or (λ kept. store) (blob_at reference store) (store ++ (reference, bytes) ∷ [])

-- whether other bytes stand under a reference
abbrev pub HasOther : List (BlobRef × List ℕ) → BlobRef → List ℕ → Type 0
HasOther store reference bytes = (kept : List ℕ) × (blob_at reference store ≡ Some kept)
    × (kept ≢ bytes)

-- the bytes that a refusal hands back
abbrev pub handed_back : PutFault → List ℕ
handed_back (NoMemory bytes) = bytes
handed_back (Clash bytes) = bytes

-- a refusal for other bytes
abbrev pub IsClashFault : PutFault → Type 0
IsClashFault (NoMemory bytes) = ⊥
IsClashFault (Clash bytes) = Unit {0}

-- a put that was refused for other bytes
abbrev pub IsClash : {T : Type 0} → Result T PutFault → Type 0
IsClash result = IsErrAnd result IsClashFault

-- a reference with the bytes that are lent under it
abbrev pub lent : BlobPair → BlobRef × List ℕ
lent pair = (pair.reference, pair.bytes.now)

-- each reference stands at one place alone
abbrev pub StandOnce : List (BlobRef × List ℕ) → Type 0
StandOnce store = IsDistinct same_reference (map (λ entry. entry.0) store)
