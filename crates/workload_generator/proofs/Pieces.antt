-- Pieces that are added one behind another.
use Rattle.std.proofs.Common.{◌≡◌, ℕ, List, ◌++◌, append_assoc, refl}

pub five : (t t₁ t₂ t₃ t₄ a b c n d e : List ℕ) → t₁ ≡ t ++ a → t₂ ≡ t₁ ++ b → t₃ ≡ t₂ ++ (c ++ n) → t₄ ≡ t₃ ++ d
    → t₄ ++ e ≡ t ++ (a ++ b ++ c ++ n ++ d ++ e)
five t t₁ t₂ t₃ t₄ a b c n d e h₁ h₂ h₃ h₄ = rw (h₄, h₃, h₂, h₁) (simp append_assoc refl)
