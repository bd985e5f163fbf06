-- Steps by number.
use Rattle.std.proofs.Common.{◌≡◌, ◌∙◌, ◌⊎◌, ℕ, zero, suc, ◌+◌, ◌-◌, ◌%◌, ◌^◌, ◌<◌, ◌≤◌, inl, inr, List, [], ◌∷◌, Bool, true, false, refl, ap, sym, arith, length, map}
use Rattle.std.specs.Prelude.{Some, Ok, Err, min, nat_le, slice_get, if◌then◌else◌}
use Rattle.std.proofs.Math.Nat.{mod-eq_of_lt}
use Rattle.std.proofs.lemmas.Nat.{mod_below}
use Rattle.std.proofs.lemmas.Bool.Decides.{nat_tests}
use Rattle.instance.specs.kvs_keys.Walk.{nth}
use Rattle.instance.specs.answers.declared.steps.Step.{Step}
use Rattle.instance.specs.answers.declared.steps.Step.TheVariants as step
use Rattle.world.specs.Order.{all_before_end, or_close, free_steps}
use Rattle.world.specs.Value.{WorldValue}

module _ {X Y : Type 0} (f : X → Y) where
  pub mapped : (xs : List X) (number : ℕ) (x : X) → nth xs number ≡ Ok x → nth (map f xs) number ≡ Ok (f x)
  mapped [] number x e = cc
  mapped (y ∷ xs) zero x e = (let same : y ≡ x = cc in ap (λ z. Ok (f z)) same)
  mapped (y ∷ xs) (suc number) x e = mapped xs number x e

  pub unmapped : (xs : List X) (number left : ℕ) → nth xs number ≡ Err left → nth (map f xs) number ≡ Err left
  unmapped [] number left e = (let same : number ≡ left = cc in ap Err same)
  unmapped (y ∷ xs) zero left e = cc
  unmapped (y ∷ xs) (suc number) left e = unmapped xs number left e

module _ {X : Type 0} where
  -- what is left tells the length
  pub lengthy : (xs : List X) (number left : ℕ) → nth xs number ≡ Err left → number ≡ length xs + left
  lengthy [] number left e = (let same : number ≡ left = cc in omega (arith, same))
  lengthy (x ∷ xs) zero left e = cc
  lengthy (x ∷ xs) (suc number) left e = (let less = lengthy xs number left e in omega (arith, less))

  pub below : (xs : List X) (number : ℕ) (x : X) → nth xs number ≡ Ok x → number < length xs
  below [] number x e = cc
  below (y ∷ xs) zero x e = omega arith
  below (y ∷ xs) (suc number) x e = (let less = below xs number x e in omega (arith, less))

  pub got : (xs : List X) (number : ℕ) (x : X) → nth xs number ≡ Ok x → slice_get xs number ≡ Some x
  got [] number x e = cc
  got (y ∷ xs) zero x e = (let same : y ≡ x = cc in ap Some same)
  got (y ∷ xs) (suc number) x e = got xs number x e

-- where something can be made, the end can't
pub going-on : (v : WorldValue) → v.closed ≡ false → 0 < length (all_before_end v) → free_steps v ≡ all_before_end v
going-on v runs some = ap (λ b. if b then [] else or_close (all_before_end v)) runs ∙ on (all_before_end v) some
  where
    on : (steps : List Step) → 0 < length steps → or_close steps ≡ steps
    on [] some = absurd (omega arith)
    on (s ∷ steps) some = refl

pub closing-now : (v : WorldValue) → v.closed ≡ false → length (all_before_end v) ≡ 0 → free_steps v ≡ step.Close ∷ []
closing-now v runs none = ap (λ b. if b then [] else or_close (all_before_end v)) runs ∙ on (all_before_end v) none
  where
    on : (steps : List Step) → length steps ≡ 0 → or_close steps ≡ step.Close ∷ []
    on [] none = refl
    on (s ∷ steps) none = absurd (omega arith)

-- a number modulo a count that is exact as far as it goes
reduced : (word count : ℕ) → word < 2 ^ 32 → 0 < count → word % min count (2 ^ 64 - 1) ≡ word % count
reduced word count small some = elim (le_or_gt count (2 ^ 64 - 1)) [
  | inl le ↦ let same : min count (2 ^ 64 - 1) ≡ count = omega (arith, le) in ap (λ n. word % n) same
  | inr gt ↦
      let same : min count (2 ^ 64 - 1) ≡ 2 ^ 64 - 1 = omega (arith, gt) in
      let short : word < 2 ^ 64 - 1 = omega (arith, small) in
      let lower : word < count = omega (arith, small, gt) in
      ap (λ n. word % n) same ∙ mod-eq_of_lt short ∙ sym (mod-eq_of_lt lower)
]
  where
    le_or_gt : (a b : ℕ) → (a ≤ b) ⊎ (b < a)
    le_or_gt a b = by (nat_le a b) refl
      where
        by : (t : Bool) → nat_le a b ≡ t → (a ≤ b) ⊎ (b < a)
        by true e = inl (grind (arith, nat_tests))
        by false e = inr (grind (arith, nat_tests))

-- the one step that a drawn number chooses
pub chosen-by : (v : WorldValue) (word number : ℕ) (s : Step) → v.closed ≡ false → word < 2 ^ 32 → 0 < length (all_before_end v) → number ≡ word % min (length (all_before_end v)) (2 ^ 64 - 1) →
    nth (all_before_end v) number ≡ Ok s → Some s ≡ slice_get (free_steps v) (word % length (free_steps v))
chosen-by v word number s runs small some same e =
    sym (ap (λ xs. slice_get xs (word % length xs)) (going-on v runs some)
    ∙ ap (slice_get (all_before_end v)) (sym (same ∙ reduced word (length (all_before_end v)) small some))
    ∙ got (all_before_end v) number s e)

-- a drawn number is one of a step
pub never-behind : (v : WorldValue) (word number left : ℕ) → 0 < length (all_before_end v) → number ≡ word % min (length (all_before_end v)) (2 ^ 64 - 1) → nth (all_before_end v) number ≡ Err left → ⊥
never-behind v word number left some same e =
    let count = min (length (all_before_end v)) (2 ^ 64 - 1) in
    let positive : 0 < count = omega (arith, some) in
    let less : word % count < count = mod_below word count positive in
    let long = lengthy (all_before_end v) number left e in
    omega (arith, less, long, same)
