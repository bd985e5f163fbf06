-- A step of a walk over the steps that can be made.
use Rattle.std.proofs.Common.{◌≡◌, ◌∙◌, ℕ, zero, suc, ◌+◌, ◌-◌, ◌<◌, ◌≤◌, List, [], ◌∷◌, ◌++◌, Bool, true, false, cond, refl, ap, arith}
use Rattle.std.specs.Prelude.{Ok, Err, Some, None, slice_get}
use Rattle.std.specs.List.{filter, range_with_len}
use Rattle.std.proofs.lemmas.List.Elements.{filter-append}
use Rattle.kvs_keys.specs.Walk.{nth}

-- the first of the numbers that are left
pub peeled : (at size : ℕ) → at < size → range_with_len at (size - at) ≡ at ∷ range_with_len (at + 1) (size - (at + 1))
peeled at size l = ap (range_with_len at) one
  where
    one : size - at ≡ suc (size - (at + 1))
    one = omega (arith, l)

pub ended : (at size : ℕ) → size ≤ at → range_with_len at (size - at) ≡ []
ended at size l = ap (range_with_len at) none
  where
    none : size - at ≡ 0
    none = omega (arith, l)

module _ {X : Type 0} where
  -- what stands behind a list is counted with what the number has left
  pub behind : (xs ys : List X) (number left : ℕ) → nth xs number ≡ Err left → nth (xs ++ ys) number ≡ nth ys left
  behind [] ys number left e = (let same : number ≡ left = cc in ap (nth ys) same)
  behind (x ∷ xs) ys zero left e = cc
  behind (x ∷ xs) ys (suc number) left e = behind xs ys number left e

  pub within : (xs ys : List X) (number : ℕ) (x : X) → nth xs number ≡ Ok x → nth (xs ++ ys) number ≡ Ok x
  within [] ys number x e = cc
  within (y ∷ xs) ys zero x e = e
  within (y ∷ xs) ys (suc number) x e = within xs ys number x e

  -- where there is no first item, each number is left behind all
  pub none-first : (xs : List X) (number : ℕ) → None ≡ slice_get xs 0 → Err number ≡ nth xs number
  none-first [] number e = refl
  none-first (x ∷ xs) number e = cc

  pub first-at : (xs : List X) (x : X) → Some x ≡ slice_get xs 0 → Ok x ≡ nth xs 0
  first-at [] x e = cc
  first-at (y ∷ xs) x e = cc

  module _ (can : X → Bool) where
    pub skipped : (x : X) (xs : List X) (number : ℕ) → can x ≡ false → nth (filter can (x ∷ xs)) number ≡ nth (filter can xs) number
    skipped x xs number off = ap (λ b. nth (cond b (x ∷ filter can xs) (filter can xs)) number) off

    pub found : (x : X) (xs : List X) → can x ≡ true → nth (filter can (x ∷ xs)) 0 ≡ Ok x
    found x xs on = ap (λ b. nth (cond b (x ∷ filter can xs) (filter can xs)) 0) on

    pub counted : (x : X) (xs : List X) (number : ℕ) → can x ≡ true → nth (filter can (x ∷ xs)) (suc number) ≡ nth (filter can xs) number
    counted x xs number on = ap (λ b. nth (cond b (x ∷ filter can xs) (filter can xs)) (suc number)) on

    pub behind-all : (xs ys : List X) (number left : ℕ) → nth (filter can xs) number ≡ Err left → nth (filter can (xs ++ ys)) number ≡ nth (filter can ys) left
    behind-all xs ys number left e = ap (λ zs. nth zs number) (filter-append can xs ys) ∙ behind (filter can xs) (filter can ys) number left e

    pub within-all : (xs ys : List X) (number : ℕ) (x : X) → nth (filter can xs) number ≡ Ok x → nth (filter can (xs ++ ys)) number ≡ Ok x
    within-all xs ys number x e = ap (λ zs. nth zs number) (filter-append can xs ys) ∙ within (filter can xs) (filter can ys) number x e
