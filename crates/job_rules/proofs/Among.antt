-- What stands among the elements of a list, and lists in which nothing stands twice.
use Rattle.std.proofs.Common.{◌≡◌, ◌≢◌, ℕ, suc, zero, ◌+◌, ◌<◌, ◌≤◌, Bool, true, false, cond, ◌⊎◌, inl, inr, eqb, List, [], ◌∷◌, ◌++◌, length, get_or, take, map, refl, sym, ap, ◌∙◌, subst, arith}
use Rattle.std.specs.Prelude.{All, Contains, filter, flat_map, nat_eq}
use Rattle.std.specs.List.{list_any, AllByRecursion as Each, IsDistinct}
use Rattle.std.specs.List.Sorted.{IsStrictlyIncreasing}
use Rattle.std.proofs.lemmas.Bool.{true≢false, eqb-true, eq-eqb, ne_eqb, or_cases, or_left, or_right}
use Rattle.std.proofs.lemmas.List.{get_or_default}
use Rattle.std.proofs.lemmas.List.Elements.{Contains-get_or, All-contains}
use Rattle.std.proofs.lemmas.List.Kept.{AllPairs-from_increasing}
use Rattle.std.proofs.lemmas.Map.Made.{length-le_from_is_member}
use Rattle.std.proofs.lemmas.Cmp.{nat_eq_equiv}
use Rattle.idset.specs.Ids.{has}
use Rattle.resource_set.specs.Units.{AreDistinct}

-- the element stands in the list
abbrev pub Among : {A : Type 0} → A → List A → Type 0
Among x [] = ⊥
Among x (y ∷ ys) = (y ≡ x) ⊎ Among x ys

module _ {A : Type 0} where
  pub among_from : (xs : List A) (x : A) → Contains xs x → Among x xs
  among_from [] x c = let none : ⊥ = omega (arith, c.1) in absurd none
  among_from (y ∷ ys) x c = at (among_from ys x) c.0 c.1 c.2
    where
      at : (Contains ys x → Among x ys) → (k : ℕ) → k < length (y ∷ ys) → get_or (y ∷ ys) k x ≡ x → Among x (y ∷ ys)
      at more zero h e = inl e
      at more (suc k) h e = let within : k < length ys = omega (arith, h) in inr (more (k, within, e))

  pub contains_from : (xs : List A) (x : A) → Among x xs → Contains xs x
  contains_from [] x i = absurd i
  contains_from (y ∷ ys) x i = elim i [
    | inl e ↦ (0, omega arith, e)
    | inr j ↦ let c : Contains ys x = contains_from ys x j in (suc c.0, omega (arith, c.1), c.2)
  ]

  pub all_from : (P : A → Type 0) (xs : List A) → ((x : A) → Among x xs → P x) → All P xs
  all_from P xs h = λ k d w. h (get_or xs k d) (among_from xs (get_or xs k d) (Contains-get_or xs k d w))

  pub all_at : (P : A → Type 0) (xs : List A) (x : A) → All P xs → Among x xs → P x
  all_at P xs x a i = All-contains P xs x a (contains_from xs x i)

  pub each_at : (P : A → Type 0) (xs : List A) (x : A) → Each P xs → Among x xs → P x
  each_at P [] x a i = absurd i
  each_at P (y ∷ ys) x a i = elim i [ inl e ↦ subst P e a.0 | inr j ↦ each_at P ys x a.1 j ]

  pub each_from : (P : A → Type 0) (xs : List A) → ((x : A) → Among x xs → P x) → Each P xs
  each_from P [] h = tt
  each_from P (y ∷ ys) h = (h y (inl refl), each_from P ys (λ x i. h x (inr i)))

  pub among_append : (xs ys : List A) (x : A) → Among x (xs ++ ys) → Among x xs ⊎ Among x ys
  among_append [] ys x i = inr i
  among_append (y ∷ xs) ys x i = elim i [
    | inl e ↦ inl (inl e)
    | inr j ↦ elim (among_append xs ys x j) [ inl a ↦ inl (inr a) | inr b ↦ inr b ]
  ]

  pub among_left : (xs ys : List A) (x : A) → Among x xs → Among x (xs ++ ys)
  among_left [] ys x i = absurd i
  among_left (y ∷ xs) ys x i = elim i [ inl e ↦ inl e | inr j ↦ inr (among_left xs ys x j) ]

  pub among_right : (xs ys : List A) (x : A) → Among x ys → Among x (xs ++ ys)
  among_right [] ys x i = i
  among_right (y ∷ xs) ys x i = inr (among_right xs ys x i)

  pub among_take : (n : ℕ) (xs : List A) (x : A) → Among x (take n xs) → Among x xs
  among_take zero xs x i = absurd i
  among_take (suc n) [] x i = absurd i
  among_take (suc n) (y ∷ ys) x i = elim i [ inl e ↦ inl e | inr j ↦ inr (among_take n ys x j) ]

  pub among_filter : (p : A → Bool) (xs : List A) (x : A) → Among x (filter p xs) → Among x xs × (p x ≡ true)
  among_filter p [] x i = absurd i
  among_filter p (y ∷ ys) x i = at (among_filter p ys x) (p y) refl i
    where
      at : (Among x (filter p ys) → Among x ys × (p x ≡ true)) → (b : Bool) → p y ≡ b → Among x (cond b (y ∷ filter p ys) (filter p ys)) → Among x (y ∷ ys) × (p x ≡ true)
      at later true e i = elim i [
        | inl same ↦ (inl same, ap p (sym same) ∙ e)
        | inr j ↦ let more = later j in (inr more.0, more.1)
      ]
      at later false e j = let more = later j in (inr more.0, more.1)

  pub among_kept : (p : A → Bool) (xs : List A) (x : A) → Among x xs → p x ≡ true → Among x (filter p xs)
  among_kept p [] x i e = absurd i
  among_kept p (y ∷ ys) x i e = at (λ j. among_kept p ys x j e) (p y) refl i
    where
      at : (Among x ys → Among x (filter p ys)) → (b : Bool) → p y ≡ b → Among x (y ∷ ys) → Among x (cond b (y ∷ filter p ys) (filter p ys))
      at later true t i = elim i [ inl same ↦ inl same | inr j ↦ inr (later j) ]
      at later false t i = elim i [
        | inl same ↦ absurd (true≢false (sym e ∙ ap p (sym same) ∙ t))
        | inr j ↦ later j
      ]

  pub any_at : (p : A → Bool) (xs : List A) (x : A) → Among x xs → p x ≡ true → list_any p xs ≡ true
  any_at p [] x i e = absurd i
  any_at p (y ∷ ys) x i e = elim i [
    | inl same ↦ or_left (p y) _ (ap p same ∙ e)
    | inr j ↦ or_right (p y) _ (any_at p ys x j e)
  ]

  pub any_from : (p : A → Bool) (xs : List A) → list_any p xs ≡ true → (x : A) × Among x xs × (p x ≡ true)
  any_from p [] e = absurd (true≢false (sym e))
  any_from p (y ∷ ys) e = elim (or_cases (p y) (list_any p ys) e) [
    | inl here ↦ (y, inl refl, here)
    | inr more ↦ let found = any_from p ys more in (found.0, inr found.1, found.2)
  ]

  -- nothing stands twice
  abbrev pub Distinct : List A → Type 0
  Distinct [] = Unit {0}
  Distinct (x ∷ xs) = ((y : A) → Among y xs → x ≢ y) × Distinct xs

  pub distinct_from : (xs : List A) → AreDistinct xs → Distinct xs
  distinct_from [] d = tt
  distinct_from (x ∷ xs) d = (λ y i. all_at (λ z. x ≢ z) xs y d.0 i, distinct_from xs d.1)

  pub are_distinct : (xs : List A) → Distinct xs → AreDistinct xs
  are_distinct [] d = tt
  are_distinct (x ∷ xs) d = (all_from (λ z. x ≢ z) xs d.0, are_distinct xs d.1)

  pub distinct-append : (xs ys : List A) → Distinct xs → Distinct ys → ((x : A) → Among x xs → Among x ys → ⊥) → Distinct (xs ++ ys)
  distinct-append [] ys d e h = e
  distinct-append (x ∷ xs) ys d e h = (apart, distinct-append xs ys d.1 e (λ z i j. h z (inr i) j))
    where
      apart : (y : A) → Among y (xs ++ ys) → x ≢ y
      apart y i = elim (among_append xs ys y i) [
        | inl a ↦ d.0 y a
        | inr b ↦ λ same. h x (inl refl) (subst (λ z. Among z ys) (sym same) b)
      ]

  pub distinct_left : (xs ys : List A) → Distinct (xs ++ ys) → Distinct xs
  distinct_left [] ys d = tt
  distinct_left (x ∷ xs) ys d = (λ y i. d.0 y (among_left xs ys y i), distinct_left xs ys d.1)

  pub distinct_right : (xs ys : List A) → Distinct (xs ++ ys) → Distinct ys
  distinct_right [] ys d = d
  distinct_right (x ∷ xs) ys d = distinct_right xs ys d.1

  pub distinct_take : (n : ℕ) (xs : List A) → Distinct xs → Distinct (take n xs)
  distinct_take zero xs d = tt
  distinct_take (suc n) [] d = tt
  distinct_take (suc n) (x ∷ xs) d = (λ y i. d.0 y (among_take n xs y i), distinct_take n xs d.1)

  pub distinct_filter : (p : A → Bool) (xs : List A) → Distinct xs → Distinct (filter p xs)
  distinct_filter p [] d = tt
  distinct_filter p (x ∷ xs) d = at (distinct_filter p xs d.1) (p x)
    where
      at : Distinct (filter p xs) → (b : Bool) → Distinct (cond b (x ∷ filter p xs) (filter p xs))
      at more true = (λ y i. d.0 y (among_filter p xs y i).0, more)
      at more false = more

module _ {A B : Type 0} (f : A → B) where
  pub among_map : (xs : List A) (y : B) → Among y (map f xs) → (x : A) × Among x xs × (f x ≡ y)
  among_map [] y i = absurd i
  among_map (x ∷ xs) y i = elim i [
    | inl e ↦ (x, inl refl, e)
    | inr j ↦ let found = among_map xs y j in (found.0, inr found.1, found.2)
  ]

  pub among_mapped : (xs : List A) (x : A) → Among x xs → Among (f x) (map f xs)
  among_mapped [] x i = absurd i
  among_mapped (y ∷ ys) x i = elim i [ inl e ↦ inl (ap f e) | inr j ↦ inr (among_mapped ys x j) ]

  pub distinct_unmapped : (xs : List A) → Distinct (map f xs) → Distinct xs
  distinct_unmapped [] d = tt
  distinct_unmapped (x ∷ xs) d = (λ y i e. d.0 (f y) (among_mapped xs y i) (ap f e), distinct_unmapped xs d.1)

  pub distinct_mapped : (xs : List A) → ((x y : A) → f x ≡ f y → x ≡ y) → Distinct xs → Distinct (map f xs)
  distinct_mapped [] h d = tt
  distinct_mapped (x ∷ xs) h d = (λ y i e. let found = among_map xs y i in d.0 found.0 found.1 (h x found.0 (e ∙ sym found.2)), distinct_mapped xs h d.1)

  -- where the images differ, so do the elements: two of one image are the same
  pub same_image : (xs : List A) (x y : A) → Distinct (map f xs) → Among x xs → Among y xs → f x ≡ f y → x ≡ y
  same_image [] x y d i j e = absurd i
  same_image (z ∷ zs) x y d i j e = elim i [
    | inl here ↦ elim j [
      | inl there ↦ sym here ∙ there
      | inr more ↦ absurd (d.0 (f y) (among_mapped zs y more) (ap f here ∙ e))
    ]
    | inr later ↦ elim j [
      | inl there ↦ absurd (d.0 (f x) (among_mapped zs x later) (ap f there ∙ sym e))
      | inr more ↦ same_image zs x y d.1 later more e
    ]
  ]

module _ {A B : Type 0} (f : A → List B) where
  pub among_flat : (xs : List A) (y : B) → Among y (flat_map f xs) → (x : A) × Among x xs × Among y (f x)
  among_flat [] y i = absurd i
  among_flat (x ∷ xs) y i = elim (among_append (f x) (flat_map f xs) y i) [
    | inl here ↦ (x, inl refl, here)
    | inr more ↦ let found = among_flat xs y more in (found.0, inr found.1, found.2)
  ]

  pub among_flattened : (xs : List A) (x : A) (y : B) → Among x xs → Among y (f x) → Among y (flat_map f xs)
  among_flattened [] x y i j = absurd i
  among_flattened (z ∷ zs) x y i j = elim i [
    | inl e ↦ among_left (f z) (flat_map f zs) y (subst (λ w. Among y (f w)) (sym e) j)
    | inr more ↦ among_right (f z) (flat_map f zs) y (among_flattened zs x y more j)
  ]

  pub distinct_part : (xs : List A) (x : A) → Distinct (flat_map f xs) → Among x xs → Distinct (f x)
  distinct_part [] x d i = absurd i
  distinct_part (z ∷ zs) x d i = elim i [
    | inl e ↦ subst (λ w. Distinct (f w)) e (distinct_left (f z) (flat_map f zs) d)
    | inr more ↦ distinct_part zs x (distinct_right (f z) (flat_map f zs) d) more
  ]

-- numbers
pub has_among : (xs : List ℕ) (id : ℕ) → has xs id ≡ true → Among id xs
has_among xs id e = let found = any_from (λ i. eqb i id) xs e in subst (λ n. Among n xs) (eqb-true found.0 id found.2) found.1

pub among_has : (xs : List ℕ) (id : ℕ) → Among id xs → has xs id ≡ true
among_has xs id i = any_at (λ n. eqb n id) xs id i (eq-eqb id id refl)

pub distinct_rising : (xs : List ℕ) → IsStrictlyIncreasing xs → Distinct xs
distinct_rising [] h = tt
distinct_rising (x ∷ xs) h = (
  λ y i e. let c = contains_from xs y i in
      let lower : x < get_or xs c.0 0 = AllPairs-from_increasing (x ∷ xs) h 0 (suc c.0) 0 (omega arith) (omega (arith, c.1)) in
      let is : get_or xs c.0 0 ≡ y = at_any xs y c.0 c.1 c.2 in
      omega arith,
  distinct_rising xs (λ k w. let next : suc k + 1 ≡ suc (k + 1) = omega arith in subst (λ n. get_or xs k 0 < get_or (x ∷ xs) n 0) next (h (suc k) (omega arith))),
)
  where
    at_any : (xs : List ℕ) (y k : ℕ) → k < length xs → get_or xs k y ≡ y → get_or xs k 0 ≡ y
    at_any xs y k w e = get_or_default xs k 0 y w ∙ e

-- as many numbers that differ stand in a list as it is long
pub no_more : (xs ys : List ℕ) → Distinct xs → ((id : ℕ) → Among id xs → Among id ys) → length xs ≤ length ys
unfolding IsDistinct
no_more xs ys d h = length-le_from_is_member nat_eq_equiv xs ys (apart xs d) (λ q e. let found = any_from (nat_eq q) xs e in any_at (nat_eq q) ys found.0 (h found.0 found.1) found.2)
  where
    differ : (x : ℕ) (xs : List ℕ) → ((y : ℕ) → Among y xs → x ≢ y) → Each (λ y. nat_eq x y ≡ false) xs
    differ x xs h = each_from (λ y. nat_eq x y ≡ false) xs (λ y i. ne_eqb x y (h y i))

    apart : (xs : List ℕ) → Distinct xs → IsDistinct nat_eq xs
    apart [] d = tt
    apart (x ∷ xs) d = (differ x xs d.0, apart xs d.1)
