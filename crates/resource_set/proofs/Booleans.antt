-- Tests that are joined.
use Rattle.std.proofs.Common.{◌≡◌, ℕ, Bool, true, false, ◌&&◌, ◌||◌, cond, eqb, List, Option, Some, None, is_some, ◌⊎◌, inl, inr, refl, sym, ap₂, arith}
use Rattle.std.specs.Str.{bytes_eq}
use Rattle.std.proofs.lemmas.Bool.Decides.{nat_tests}
use Rattle.std.proofs.lemmas.Slice.Eq.{bytes_eq-Decides}
use Rattle.resource_set.proofs.Places.{or_place}

pub both : (a b : Bool) → (a && b) ≡ true → (a ≡ true) × (b ≡ true)
both true b h = (refl, h)
both false b h = cc

pub either : (a b : Bool) → (a || b) ≡ true → (a ≡ true) ⊎ (b ≡ true)
either true b h = inl refl
either false b h = inr h

pub neither : (a b : Bool) → (a || b) ≡ false → (a ≡ false) × (b ≡ false)
neither true b h = cc
neither false b h = (refl, h)

pub no_or : (a b : Bool) → a ≡ false → b ≡ false → (a || b) ≡ false
no_or a b e f = ap₂ (λ x y. x || y) e f

pub false_of : (b : Bool) → (b ≡ true → ⊥) → b ≡ false
false_of true f = absurd (f refl)
false_of false f = refl

-- tests that pass together are the same
pub agree : (a b : Bool) → (a ≡ true → b ≡ true) → (b ≡ true → a ≡ true) → a ≡ b
agree true b f g = sym (f refl)
agree false true f g = g refl
agree false false f g = refl

pub itself : (n : ℕ) → eqb n n ≡ true
itself n = grind (arith, nat_tests)

pub same_name : (a b : List ℕ) → bytes_eq a b ≡ true → a ≡ b
same_name a b t = (bytes_eq-Decides a b).0 t

-- a place that is written down where there was none
pub placed_anew : (b : Bool) (o : Option ℕ) (i : ℕ) → (b ≡ true → is_some o ≡ false) → cond b (Some i) o ≡ or_place o (cond b (Some i) None)
placed_anew true None i f = refl
placed_anew true (Some k) i f = let no : true ≡ false = f refl in cc
placed_anew false None i f = refl
placed_anew false (Some k) i f = refl
