-- What a call of a keeper may answer.
use Rattle.std.specs.Prelude.{ℕ, ◌≡◌, ◌≢◌, ◌≤◌, ◌⊎◌, List, Some, Result, Err}
use Rattle.backing.specs.declared.keeper.KeepFault.{KeepFault}
use Rattle.backing.specs.declared.keeper.KeepFault.TheVariants.{NoMemory, Failed, Clash}
use Rattle.backing.specs.declared.Write.{Write}
use Rattle.backing.specs.Writes.{blob_in}
use Rattle.fl_digest.specs.declared.BlobRef.{BlobRef}
use Rattle.outside.specs.Causes.{Rose}

-- the count of faults never falls, and it rose where the keeper failed
pub record HasKeepCause {T : Type 0} (before now : ℕ) (result : Result T KeepFault) : Type 0 where
  pub later : before ≤ now
  pub failed : result ≡ Err Failed → Rose before now

-- a refusal for want of memory, or for a fault that was counted
abbrev pub RefusesWith : ℕ → ℕ → KeepFault → Type 0
RefusesWith before now NoMemory = now ≡ before
RefusesWith before now Failed = (before ≤ now) × Rose before now
RefusesWith before now (Clash kept) = ⊥

-- no clash
abbrev pub IsNoClash : KeepFault → Type 0
IsNoClash (Clash kept) = ⊥
IsNoClash NoMemory = Unit {0}
IsNoClash Failed = Unit {0}

-- a clash hands over bytes that differ from the offered ones
abbrev pub HandsOther : List ℕ → KeepFault → Type 0
HandsOther bytes (Clash kept) = kept ≢ bytes
HandsOther bytes NoMemory = Unit {0}
HandsOther bytes Failed = Unit {0}

-- a put clashes with the kept bytes exactly where the writes keep other bytes under the reference,
-- unless memory is wanting for them
pub record ClashesWith {T : Type 0} (writes : List Write)
    (reference : BlobRef) (bytes : List ℕ) (result : Result T KeepFault) : Type 0 where
  pub only : (kept : List ℕ) → result ≡ Err (Clash kept)
      → (blob_in reference writes ≡ Some kept) × (kept ≢ bytes)
  pub always : (kept : List ℕ) → blob_in reference writes ≡ Some kept
      → kept ≢ bytes → (result ≡ Err (Clash kept)) ⊎ (result ≡ Err NoMemory)
