-- Rising lists of ids.
use Rattle.std.proofs.Common.{◌≡◌, ℕ, ◌+◌, ◌<◌, ◌≤◌, Bool, true, false, ◌&&◌, ◌||◌, not, eqb, ltb, List, [], ◌∷◌, ◌++◌, length, get_or, is_eq, nat_cmp, refl, sym, ap₂, subst, ◌∙◌, arith, inl, inr, ◌⊎◌}
use Rattle.std.specs.List.{All, list_any, range_with_len}
use Rattle.std.specs.List.Sorted.{IsStrictlyIncreasing}
use Rattle.std.specs.BTreeSet.{BTreeSet}
use Rattle.std.proofs.lemmas.Bool.{cases_lt}
use Rattle.std.proofs.lemmas.Bool.Decides.{nat_tests}
use Rattle.std.proofs.lemmas.Cmp.{nat_cmp_total}
use Rattle.std.proofs.lemmas.List.{get_or_append_left, get_or_push}
use Rattle.std.proofs.lemmas.List.Elements.{All-head, All-tail}
use Rattle.std.proofs.lemmas.List.Filters.{length-filter_both}
use Rattle.std.proofs.lemmas.List.FromFn.{length-range_with_len}
use Rattle.std.proofs.lemmas.Map.Keys.{sorted_from_strictly_increasing}
use Rattle.std.proofs.lemmas.Map.Lookups.{btree_set_from_contains, exact_unsigned}
use Rattle.idset.specs.Ids.{ids_where, has, list_of}
use Rattle.idset.proofs.Members.{has-ids_where, set_where}

-- what is in a list of small ids is small
pub small_in : (xs : List ℕ) (q : ℕ) → All (λ id. id < 65536) xs → has xs q ≡ true → q < 65536
small_in [] q a h = cc
small_in (x ∷ xs) q a h = go (eqb x q) refl h (λ t. small_in xs q (All-tail (λ k. k < 65536) x xs a) t)
  where
    go : (b : Bool) → eqb x q ≡ b → (b || has xs q) ≡ true → (has xs q ≡ true → q < 65536) → q < 65536
    go true e t f = let is : x ≡ q = grind (arith, nat_tests) in let small : x < 65536 = All-head (λ k. k < 65536) x xs a in omega arith
    go false e t f = f t

small_test : (b : Bool) (q : ℕ) → (b ≡ true → q < 65536) → (b && ltb q 65536) ≡ b
small_test true q f = let small : q < 65536 = f refl in grind (arith, nat_tests)
small_test false q f = refl

-- a list as a set has the same small ids
pub has-list_of : (xs : List ℕ) (q : ℕ) → All (λ id. id < 65536) xs → has (list_of xs) q ≡ has xs q
has-list_of xs q a = has-ids_where (has xs) q ∙ small_test (has xs q) q (λ t. small_in xs q a t)

any_alike : (p q : ℕ → Bool) (xs : List ℕ) → ((x : ℕ) → p x ≡ q x) → list_any p xs ≡ list_any q xs
any_alike p q [] h = refl
any_alike p q (x ∷ xs) h = ap₂ (λ a b. a || b) (h x) (any_alike p q xs h)

is_key : (q : ℕ) (xs : List ℕ) → list_any (λ k. is_eq (nat_cmp q k)) xs ≡ has xs q
is_key q xs = any_alike (λ k. is_eq (nat_cmp q k)) (λ k. eqb k q) xs (λ k. grind (arith, nat_tests))

-- a rising list of small ids is the list of its ids
pub list_of_rising : (xs : List ℕ) → IsStrictlyIncreasing xs → All (λ id. id < 65536) xs → list_of xs ≡ xs
list_of_rising xs up small =
    let s : BTreeSet ℕ = record { keys = list_of xs } in
    let t : BTreeSet ℕ = record { keys = xs } in
    btree_set_from_contains nat_cmp_total s t (sorted_from_strictly_increasing (list_of xs) (set_where (has xs)).rising) (sorted_from_strictly_increasing xs up)
    (λ q. is_key q (list_of xs) ∙ has-list_of xs q small ∙ sym (is_key q xs)) exact_unsigned

length-list_of : (xs : List ℕ) → length (list_of xs) ≤ 65536
unfolding ids_where
length-list_of xs = omega (arith, length-filter_both (has xs) (λ id. not (has xs id)) (λ id. refl) (range_with_len 0 65536), length-range_with_len 0 65536)

-- there are few of them
pub length-rising : (xs : List ℕ) → IsStrictlyIncreasing xs → All (λ id. id < 65536) xs → length xs ≤ 65536
length-rising xs up small = subst (λ l. length l ≤ 65536) (list_of_rising xs up small) (length-list_of xs)

-- a greater number at the end
pub rising_push : (xs : List ℕ) (m : ℕ) → IsStrictlyIncreasing xs → All (λ x. x < m) xs → IsStrictlyIncreasing (xs ++ m ∷ [])
rising_push xs m up below k h = go (cases_lt (k + 1) (length xs))
  where
    go : (k + 1 < length xs) ⊎ (length xs ≤ k + 1) → get_or (xs ++ m ∷ []) k 0 < get_or (xs ++ m ∷ []) (k + 1) 0
    go (inl l) =
        let a = get_or_append_left xs (m ∷ []) 0 k (omega arith) in
        let b = get_or_append_left xs (m ∷ []) 0 (k + 1) l in
        omega (arith, a, b, up k l)
    go (inr g) =
        let len : length xs ≡ k + 1 = omega (arith, Rattle.std.proofs.Common.length-append xs (m ∷ [])) in
        let a = get_or_append_left xs (m ∷ []) 0 k (omega arith) in
        let b = get_or_push xs m 0 (k + 1) len in
        omega (arith, a, b, below k 0 (omega arith))
