-- On lists: the first element that passes, and one that is changed.
use Rattle.std.proofs.Common.{◌≡◌, ◌≢◌, ℕ, zero, suc, ◌+◌, ◌<◌, inl, inr, List, [], ◌∷◌, length, Bool, true, false, ◌||◌, cond, Some, None, refl, sym, ap, ◌∙◌, subst, arith, true≢false, get_or, set as put}
use Rattle.std.specs.Prelude.{◌↔◌, IsTrue}
use Rattle.content_service.specs.Steps.{are_none}
use Rattle.std.specs.List.{list_any, position, position_or_len, sum_by}
use Rattle.std.proofs.lemmas.Bool.{cases_eq}
use Rattle.std.proofs.lemmas.Bool.Decides.{nat_tests}
use Rattle.std.proofs.lemmas.List.{length-set, get_or-set_same, get_or-set_other}
use Rattle.std.proofs.lemmas.List.Sums.{sum_by-cons, fails_before_first}
use Rattle.std.proofs.lemmas.List.Folds.{list_any_at, list_any_none}
use Rattle.std.proofs.lemmas.List.Quantifiers.{position-Some}

pub neither : (a b : Bool) → a ≡ false → b ≡ false → (a || b) ≡ false
neither true b e f = e
neither false b e f = f

pub left-false : (a b : Bool) → (a || b) ≡ false → a ≡ false
left-false true b e = e
left-false false b e = refl

pub right-false : (a b : Bool) → (a || b) ≡ false → b ≡ false
right-false true b e = absurd (true≢false e)
right-false false b e = e

pub or-true : (b : Bool) → (b || true) ≡ true
or-true true = refl
or-true false = refl

none-passes : {X : Type 0} (p : X → Bool) (xs : List X) → position p xs ≡ None → list_any p xs ≡ false
none-passes p xs e = list_any_none p xs (λ k d l. fails_before_first p xs k d (past k l))
  where
    past : (k : ℕ) → k < length xs → k < position_or_len p xs
    past k l = grind (arith, nat_tests)

pub found-none : {X : Type 0} (p : X → Bool) (xs : List X) → None ≡ position p xs → list_any p xs ≡ true → ⊥
found-none p xs e h = true≢false (sym h ∙ none-passes p xs (sym e))

pub found-within : {X : Type 0} (p : X → Bool) (xs : List X) (i : ℕ) → Some i ≡ position p xs → i < length xs
found-within p [] i e = cc
found-within p (x ∷ xs) i e = (position-Some p (x ∷ xs) i x (sym e)).0

pub found-passes : {X : Type 0} (p : X → Bool) (xs : List X) (i : ℕ) (d : X) → Some i ≡ position p xs → p (get_or xs i d) ≡ true
found-passes p xs i d e = (position-Some p xs i d (sym e)).1

-- an element that passes shows
pub shows : {X : Type 0} (p : X → Bool) (xs : List X) (k : ℕ) → k < length xs → ((d : X) → p (get_or xs k d) ≡ true) → list_any p xs ≡ true
shows p [] k l e = absurd (omega arith)
shows p (x ∷ xs) k l e = list_any_at p (x ∷ xs) k x l (e x)

-- what holds of the new element and of each other one holds of all
pub set-all : {X : Type 0} (P : X → Type 0) (xs : List X) (i : ℕ) (v : X) → P v → ((k : ℕ) (d : X) → k < length xs → k ≢ i → P (get_or xs k d)) → (k : ℕ) (d : X) → k < length (put xs i v) → P (get_or (put xs i v) k d)
set-all P xs i v here others k d l =
    let within : k < length xs = simp length-set at l in
    elim (cases_eq k i) [
      | inl e ↦ subst P (sym (ap (λ j. get_or (put xs i v) j d) e ∙ get_or-set_same xs i v d (subst (λ j. j < length xs) e within))) here
      | inr ne ↦ subst P (sym (get_or-set_other xs i k v d ne)) (others k d within ne)
    ]

-- a write that leaves what f reads leaves it everywhere
pub set-kept : {X Y : Type 0} (f : X → Y) (xs : List X) (i : ℕ) (v : X) → ((d : X) → f v ≡ f (get_or xs i d)) → (k : ℕ) (d : X) → k < length xs → f (get_or (put xs i v) k d) ≡ f (get_or xs k d)
set-kept f xs i v same k d l =
    elim (cases_eq k i) [
      | inl e ↦ ap (λ j. f (get_or (put xs i v) j d)) e ∙ ap f (get_or-set_same xs i v d (subst (λ j. j < length xs) e l)) ∙ same d ∙ ap (λ j. f (get_or xs j d)) (sym e)
      | inr ne ↦ ap f (get_or-set_other xs i k v d ne)
    ]

-- the later of two writes stays
pub set-again : {X : Type 0} (xs : List X) (i : ℕ) (v w : X) → put (put xs i v) i w ≡ put xs i w
set-again [] i v w = refl
set-again (x ∷ xs) zero v w = refl
set-again (x ∷ xs) (suc i) v w = ap (λ l. x ∷ l) (set-again xs i v w)

none-counts : {X : Type 0} (p : X → Bool) (xs : List X) → list_any p xs ≡ false → sum_by (λ x. cond (p x) 1 0) xs ≡ 0
none-counts p [] e = refl
none-counts p (x ∷ xs) e =
    let here : ◌≡◌ {A = ℕ} (cond (p x) 1 0) 0 = ap (λ b. cond b 1 0) (left-false (p x) (list_any p xs) e) in
    let rest = none-counts p xs (right-false (p x) (list_any p xs) e) in
    sum_by-cons (λ y. cond (p y) 1 0) x xs ∙ omega (arith, here, rest)

-- where a sum is more than nothing, some element counts
pub some-counts : {X : Type 0} (p : X → Bool) (xs : List X) → 0 < sum_by (λ x. cond (p x) 1 0) xs → list_any p xs ≡ true
some-counts p xs h = by (list_any p xs) refl
  where
    by : (b : Bool) → list_any p xs ≡ b → list_any p xs ≡ true
    by true e = e
    by false e = let z = none-counts p xs e in absurd (omega arith)

-- a test of emptiness
pub empty-is : {X : Type 0} (xs : List X) (b : Bool) → (IsTrue b ↔ (xs ≡ [])) → b ≡ are_none xs
empty-is [] b h = h.1 refl
empty-is (x ∷ xs) true h = let bad : (x ∷ xs) ≡ [] = h.0 refl in absurd (let no : ⊥ = cc in no)
empty-is (x ∷ xs) false h = refl

pub empty-of : {X : Type 0} (xs : List X) → are_none xs ≡ true → xs ≡ []
empty-of [] h = refl
empty-of (x ∷ xs) h = absurd (true≢false (sym h))

-- where nothing counts, none passes
pub none-any : {X : Type 0} (p : X → Bool) (xs : List X) → sum_by (λ x. cond (p x) 1 0) xs ≡ 0 → list_any p xs ≡ false
none-any p [] h = refl
none-any p (x ∷ xs) h = by (λ e. none-any p xs e) (p x) refl
  where
    sum : cond (p x) 1 0 + sum_by (λ y. cond (p y) 1 0) xs ≡ 0
    sum = sym (sum_by-cons (λ y. cond (p y) 1 0) x xs) ∙ h

    by : (sum_by (λ y. cond (p y) 1 0) xs ≡ 0 → list_any p xs ≡ false) → (b : Bool) → p x ≡ b → (p x || list_any p xs) ≡ false
    by rest true e = let one : ◌≡◌ {A = ℕ} (cond (p x) 1 0) 1 = ap (λ b. cond b 1 0) e in let s = sum in absurd (omega (arith, one, s))
    by rest false e = ap (λ b. b || list_any p xs) e ∙ rest (let s = sum in omega (arith, s))
