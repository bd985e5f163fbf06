-- What a list of writes keeps.
use Rattle.std.specs.Prelude.{ℕ, List, [], ◌∷◌, ◌++◌, Option, Some, None, ◌≡◌, ◌≢◌, if◌then◌else◌, unwrap_or, option_map}
use Rattle.backing.specs.declared.Check.{Check}
use Rattle.backing.specs.declared.Write.{Write}
use Rattle.backing.specs.declared.Write.TheVariants.{Put, Mark}
use Rattle.fl_digest.specs.declared.BlobRef.{BlobRef}
use Rattle.fl_digest.specs.Reference.{same_reference}

-- the bytes that are kept under a reference: those that were first put there
abbrev pub blob_in : BlobRef → List Write → Option (List ℕ)
blob_in reference [] = None
blob_in reference (Put other bytes ∷ writes) =
    if same_reference reference other then Some bytes else blob_in reference writes
blob_in reference (Mark check ∷ writes) = blob_in reference writes

-- the check that was marked last
abbrev pub check_in : List Write → Option Check
check_in [] = None
check_in (Put reference bytes ∷ writes) = check_in writes
check_in (Mark check ∷ writes) = Some (unwrap_or (check_in writes) check)

-- other bytes are kept under the reference
abbrev pub HasOther : List Write → BlobRef → List ℕ → Type 0
HasOther writes reference bytes = (kept : List ℕ) × (blob_in reference writes ≡ Some kept)
    × (kept ≢ bytes)

-- the list with one more write, where it is told
abbrev pub with_write : Write → Option (List Write) → Option (List Write)
with_write write told = option_map (λ writes. writes ++ write ∷ []) told
