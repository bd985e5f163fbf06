-- What a refusal says of a call.
use Rattle.std.proofs.Common.{◌≡◌, ℕ, List, Result, Ok, Err, arith}
use Rattle.std.specs.Prelude.{IsErrAnd}
use Rattle.fl_digest.specs.declared.BlobRef.{BlobRef}
use Rattle.backing.specs.declared.keeper.KeepFault.{KeepFault}
use Rattle.backing.specs.declared.keeper.KeepFault.TheVariants.{NoMemory, Failed, Clash}
use Rattle.backing.specs.declared.Write.{Write}
use Rattle.backing.specs.Calls.{ClashesWith, HasKeepCause, RefusesWith}
use Rattle.backing.specs.Memory.{Fails, Kept}
use Rattle.backing.specs.Writes.{HasOther}

-- ---- a refusal that is no clash
pub cause_of : {T : Type 0} (before now : ℕ) (fault : KeepFault) → RefusesWith before now fault → HasKeepCause {T = T} before now (Err fault)
cause_of before now NoMemory refused = record { later = omega (arith, refused); failed = λ same. cc same }
cause_of before now Failed refused = record { later = refused.0; failed = λ same. refused.1 }
cause_of before now (Clash kept) refused = absurd refused

-- ---- a call that doesn't clash, where nothing clashes
pub nothing_clashes : {T : Type 0} (writes : List Write) (reference : BlobRef) (bytes : List ℕ) (answer : Result T KeepFault) → (HasOther writes reference bytes → ⊥) → ((kept : List ℕ) → answer ≡ Err (Clash kept) → ⊥) → ClashesWith writes reference bytes answer
nothing_clashes writes reference bytes answer none other_answer = record {
  only = λ kept same. absurd (other_answer kept same);
  always = λ kept there other. absurd (none (kept, there, other));
}

-- ---- a clash for which memory was wanting
pub wanting : {T : Type 0} (kept : Kept) (writes : List Write) (reference : BlobRef) (bytes : List ℕ) (answer : Result T KeepFault) → HasOther writes reference bytes → IsErrAnd answer (λ fault. fault ≡ NoMemory) → Fails kept (HasOther writes reference bytes → ⊥) answer
wanting kept writes reference bytes (Ok x) other memory = absurd memory
wanting kept writes reference bytes (Err fault) other memory = record {
  only = λ same. cc (memory, same);
  listed = λ t none. absurd (none other);
}
