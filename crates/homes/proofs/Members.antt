-- Members of lists.
use Rattle.std.proofs.Common.{◌≡◌, ◌∙◌, ℕ, zero, suc, ◌+◌, ◌<◌, ◌≤◌, ◌⊎◌, inl, inr, length, List, [], ◌∷◌, map, Bool, true, false, cond, Option, Some, None, refl, sym, ap, subst, arith}
use Rattle.std.specs.Prelude.{Contains, filter_map, flat_map, slice_get}
use Rattle.std.specs.List.{cons_option, enumerate_from, filter, range_with_len}
use Rattle.std.proofs.lemmas.List.Elements.{Contains-append_left, Contains-append_right, Contains-append_cases}

module _ {X : Type 0} where
  pub first : (x : X) (xs : List X) → Contains (x ∷ xs) x
  first x xs = (0, omega arith, refl)

  pub later : (y : X) (xs : List X) (x : X) → Contains xs x → Contains (y ∷ xs) x
  later y xs x c = (suc c.0, omega (arith, c.1), c.2)

  pub nobody : (x : X) → Contains [] x → ⊥
  nobody x c = absurd (omega (arith, c.1))

  -- a member is the first or stands behind it
  pub split : (y : X) (xs : List X) (x : X) → Contains (y ∷ xs) x → (y ≡ x) ⊎ Contains xs x
  split y xs x (zero, within, is) = inl is
  split y xs x (suc k, within, is) = inr (k, omega arith, is)

  -- who is in a list isn't in an empty one
  pub some : (xs : List X) (x : X) → Contains xs x → xs ≡ [] → ⊥
  some xs x c e = nobody x (subst (λ l. Contains l x) e c)

  -- ---- kept by a test

  module _ (p : X → Bool) where
    pub in_filter : (xs : List X) (x : X) → p x ≡ true → Contains xs x → Contains (filter p xs) x
    in_filter [] x t c = absurd (nobody x c)
    in_filter (y ∷ xs) x t c = elim (split y xs x c) [
      | inl e ↦ subst (λ b. Contains (cond b (y ∷ filter p xs) (filter p xs)) x) (sym (ap p e ∙ t)) (subst (λ z. Contains (y ∷ filter p xs) z) e (first y (filter p xs)))
      | inr d ↦ elim (p y) as (λ b. Contains (cond b (y ∷ filter p xs) (filter p xs)) x) [ true ↦ later y (filter p xs) x (in_filter xs x t d) | false ↦ in_filter xs x t d ]
    ]

    pub from_filter : (xs : List X) (x : X) → Contains (filter p xs) x → Contains xs x × (p x ≡ true)
    from_filter [] x c = absurd (nobody x c)
    from_filter (y ∷ xs) x c = by (λ d. from_filter xs x d) (p y) refl c
      where
        more : (Contains (filter p xs) x → Contains xs x × (p x ≡ true)) → Contains (filter p xs) x → Contains (y ∷ xs) x × (p x ≡ true)
        more again d = (let m = again d in (later y xs x m.0, m.1))

        by : (Contains (filter p xs) x → Contains xs x × (p x ≡ true)) → (b : Bool) → p y ≡ b → Contains (cond b (y ∷ filter p xs) (filter p xs)) x → Contains (y ∷ xs) x × (p x ≡ true)
        by again true is d = elim (split y (filter p xs) x d) [
          | inl e ↦ (subst (Contains (y ∷ xs)) e (first y xs), ap p (sym e) ∙ is)
          | inr rest ↦ more again rest
        ]
        by again false is d = more again d

-- ---- numbered

pub in_enumerated : {X : Type 0} (a : ℕ) (xs : List X) (i : ℕ) (x : X) → slice_get xs i ≡ Some x → Contains (enumerate_from a xs) (a + i, x)
in_enumerated a [] i x e = absurd (cc)
in_enumerated a (y ∷ xs) zero x e =
    let same : y ≡ x = cc in
    let here : a ≡ a + 0 = omega arith in
    subst (λ n. Contains ((a, y) ∷ enumerate_from (a + 1) xs) (n, x)) here
    (subst (λ z. Contains ((a, y) ∷ enumerate_from (a + 1) xs) (a, z)) same (first (a, y) (enumerate_from (a + 1) xs)))
in_enumerated a (y ∷ xs) (suc i) x e =
    let on : (a + 1) + i ≡ a + suc i = omega arith in
    later (a, y) (enumerate_from (a + 1) xs) (a + suc i, x)
    (subst (λ n. Contains (enumerate_from (a + 1) xs) (n, x)) on (in_enumerated (a + 1) xs i x e))

pub from_enumerated : {X : Type 0} (a : ℕ) (xs : List X) (at : ℕ × X) → Contains (enumerate_from a xs) at → (i : ℕ) × (at.0 ≡ a + i) × (slice_get xs i ≡ Some at.1)
from_enumerated a [] at c = absurd (nobody at c)
from_enumerated a (y ∷ xs) at c = elim (split (a, y) (enumerate_from (a + 1) xs) at c) [
  | inl e ↦ (0, let here : a ≡ at.0 = ap (λ p. p.0) e in omega (arith, here), ap (λ p. Some p.1) e)
  | inr d ↦ (let m = from_enumerated (a + 1) xs at d in (suc m.0, omega (arith, m.1), m.2))
]

module _ {X Y : Type 0} where
  module _ (f : X → Y) where
    pub in_map : (xs : List X) (x : X) → Contains xs x → Contains (map f xs) (f x)
    in_map [] x c = absurd (nobody x c)
    in_map (y ∷ xs) x c = elim (split y xs x c) [ inl e ↦ subst (λ z. Contains (f y ∷ map f xs) (f z)) e (first (f y) (map f xs)) | inr d ↦ later (f y) (map f xs) (f x) (in_map xs x d) ]

    pub from_map : (xs : List X) (y : Y) → Contains (map f xs) y → (x : X) × Contains xs x × (f x ≡ y)
    from_map [] y c = absurd (nobody y c)
    from_map (x ∷ xs) y c = elim (split (f x) (map f xs) y c) [ inl e ↦ (x, first x xs, e) | inr d ↦ (let m = from_map xs y d in (m.0, later x xs m.0 m.1, m.2)) ]

  module _ (f : X → List Y) where
    pub in_flat_map : (xs : List X) (x : X) (y : Y) → Contains xs x → Contains (f x) y → Contains (flat_map f xs) y
    in_flat_map [] x y c d = absurd (nobody x c)
    in_flat_map (z ∷ xs) x y c d = elim (split z xs x c) [
      | inl e ↦ Contains-append_left (f z) (flat_map f xs) y (subst (λ u. Contains (f u) y) (sym e) d)
      | inr more ↦ Contains-append_right (f z) (flat_map f xs) y (in_flat_map xs x y more d)
    ]

    pub from_flat_map : (xs : List X) (y : Y) → Contains (flat_map f xs) y → (x : X) × Contains xs x × Contains (f x) y
    from_flat_map [] y c = absurd (nobody y c)
    from_flat_map (x ∷ xs) y c = elim (Contains-append_cases (f x) (flat_map f xs) y c) [
      | inl e ↦ (x, first x xs, e)
      | inr d ↦ (let m = from_flat_map xs y d in (m.0, later x xs m.0 m.1, m.2))
    ]

  module _ (f : X → Option Y) where
    in_cons : (o : Option Y) (ys : List Y) (y : Y) → Contains ys y → Contains (cons_option o ys) y
    in_cons None ys y c = c
    in_cons (Some z) ys y c = later z ys y c

    from_cons : (o : Option Y) (ys : List Y) (y : Y) → Contains (cons_option o ys) y → (o ≡ Some y) ⊎ Contains ys y
    from_cons None ys y c = inr c
    from_cons (Some z) ys y c = elim (split z ys y c) [ inl e ↦ inl (ap Some e) | inr d ↦ inr d ]

    pub in_filter_map : (xs : List X) (x : X) (y : Y) → Contains xs x → f x ≡ Some y → Contains (filter_map f xs) y
    in_filter_map [] x y c is = absurd (nobody x c)
    in_filter_map (z ∷ xs) x y c is = elim (split z xs x c) [
      | inl e ↦ subst (λ o. Contains (cons_option o (filter_map f xs)) y) (sym (ap f e ∙ is)) (first y (filter_map f xs))
      | inr d ↦ in_cons (f z) (filter_map f xs) y (in_filter_map xs x y d is)
    ]

    pub from_filter_map : (xs : List X) (y : Y) → Contains (filter_map f xs) y → (x : X) × Contains xs x × (f x ≡ Some y)
    from_filter_map [] y c = absurd (nobody y c)
    from_filter_map (x ∷ xs) y c = elim (from_cons (f x) (filter_map f xs) y c) [
      | inl e ↦ (x, first x xs, e)
      | inr d ↦ (let m = from_filter_map xs y d in (m.0, later x xs m.0 m.1, m.2))
    ]

pub from_start : (a k : ℕ) → a ≤ k → (a ≡ k) ⊎ (a + 1 ≤ k)
from_start zero zero low = inl refl
from_start zero (suc k) low = inr (omega arith)
from_start (suc a) zero low = absurd (omega (arith, low))
from_start (suc a) (suc k) low = elim (from_start a k (omega (arith, low))) [ inl e ↦ inl (ap suc e) | inr l ↦ inr (omega (arith, l)) ]

pub in_range : (a n k : ℕ) → a ≤ k → k < a + n → Contains (range_with_len a n) k
in_range a zero k low high = absurd (omega (arith, low, high))
in_range a (suc n) k low high = elim (from_start a k low) [
  | inl e ↦ subst (Contains (a ∷ range_with_len (a + 1) n)) e (first a (range_with_len (a + 1) n))
  | inr l ↦ later a (range_with_len (a + 1) n) k (in_range (a + 1) n k l (omega (arith, high)))
]

pub item_at : {X : Type 0} (xs : List X) (k : ℕ) → k < length xs → (x : X) × (slice_get xs k ≡ Some x)
item_at [] k below = absurd (omega (arith, below))
item_at (x ∷ xs) zero below = (x, refl)
item_at (x ∷ xs) (suc k) below = item_at xs k (omega (arith, below))
