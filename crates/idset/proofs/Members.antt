-- The ids that pass a test, and what a set made so keeps.
use Rattle.std.proofs.Common.{◌≡◌, ◌≢◌, ℕ, suc, zero, ◌+◌, ◌<◌, ◌≤◌, Bool, true, false, cond, ◌&&◌, ◌||◌, eqb, leb, ltb, List, [], ◌∷◌, get_or, filter, All, refl, ap, ◌∙◌, arith, rules}
use Rattle.std.specs.List.{range_with_len}
use Rattle.std.specs.List.Sorted.{IsStrictlyIncreasing}
use Rattle.std.proofs.lemmas.Bool.Decides.{nat_tests}
use Rattle.std.proofs.lemmas.List.Kept.{IsStrictlyIncreasing-filter}
use Rattle.std.proofs.lemmas.List.FromFn.{get_or-range_with_len, length-range_with_len}
use Rattle.std.proofs.lemmas.List.Elements.{All-cons}
use Rattle.idset.specs.Ids.{ids_where, has, list_of, IsIdSet}

-- two tests that agree on a stretch of numbers keep the same ones
pub filter-alike : (p q : ℕ → Bool) (n m : ℕ) → ((k : ℕ) → n ≤ k → k < n + m → p k ≡ q k) → filter p (range_with_len n m) ≡ filter q (range_with_len n m)
filter-alike p q n zero h = refl
filter-alike p q n (suc m) h =
    let here : p n ≡ q n = h n (omega arith) (omega arith) in
    let more : filter p (range_with_len (n + 1) m) ≡ filter q (range_with_len (n + 1) m) = filter-alike p q (n + 1) m (λ k a b. h k (omega arith) (omega arith)) in
    rw (here, more) refl

pub filter-no : (xs : List ℕ) → filter (λ _. false) xs ≡ []
filter-no [] = refl
filter-no (x ∷ xs) = filter-no xs

pub filter-yes : (xs : List ℕ) → filter (λ _. true) xs ≡ xs
filter-yes [] = refl
filter-yes (x ∷ xs) = ap (λ ys. x ∷ ys) (filter-yes xs)

pub same_ids : (p q : ℕ → Bool) → ((k : ℕ) → k < 65536 → p k ≡ q k) → ids_where p ≡ ids_where q
unfolding ids_where
same_ids p q h = filter-alike p q 0 65536 (λ k a b. h k (omega arith))

-- one number more
has_more : (p : ℕ → Bool) (n id : ℕ) (b : Bool) (rest : List ℕ) (r : Bool) → p n ≡ b → has rest id ≡ r → has (cond b (n ∷ rest) rest) id ≡ ((b && eqb n id) || r)
has_more p n id true rest r e h = rw h refl
has_more p n id false rest r e h = h

at_it : (b d : Bool) (n m id : ℕ) → b ≡ d → n ≡ id → ((b && true) || (d && leb (n + 1) id && ltb id (n + 1 + m))) ≡ (d && leb n id && ltb id (n + suc m))
at_it b true n m id e h = rw e (grind (arith, nat_tests))
at_it b false n m id e h = rw e refl

past_it : (b d : Bool) (n m id : ℕ) → n ≢ id → ((b && false) || (d && leb (n + 1) id && ltb id (n + 1 + m))) ≡ (d && leb n id && ltb id (n + suc m))
past_it true true n m id h = grind (arith, nat_tests)
past_it false true n m id h = grind (arith, nat_tests)
past_it true false n m id h = refl
past_it false false n m id h = refl

step : (p : ℕ → Bool) (n m id : ℕ) → ((p n && eqb n id) || (p id && leb (n + 1) id && ltb id (n + 1 + m))) ≡ (p id && leb n id && ltb id (n + suc m))
step p n m id = elim (eqb n id) as (λ b. eqb n id ≡ b → ((p n && b) || (p id && leb (n + 1) id && ltb id (n + 1 + m))) ≡ (p id && leb n id && ltb id (n + suc m))) [
  | true ↦ λ e. let same : n ≡ id = grind (arith, nat_tests) in let there : p n ≡ p id = ap p same in at_it (p n) (p id) n m id there same
  | false ↦ λ e. let other : n ≢ id = grind (arith, nat_tests) in past_it (p n) (p id) n m id other
] refl

pub has-filter : (p : ℕ → Bool) (n m id : ℕ) → has (filter p (range_with_len n m)) id ≡ (p id && leb n id && ltb id (n + m))
has-filter p n zero id = grind (arith, nat_tests)
has-filter p n (suc m) id = has_more p n id (p n) (filter p (range_with_len (n + 1) m)) _ refl (has-filter p (n + 1) m id) ∙ step p n m id

pub has-ids_where : (p : ℕ → Bool) (id : ℕ) → has (ids_where p) id ≡ (p id && ltb id 65536)
unfolding ids_where
has-ids_where p id = has-filter p 0 65536 id ∙ grind (arith, nat_tests)

-- an id below 65,536 is in the set just where it passes
pub has_small : (p : ℕ → Bool) (id : ℕ) → id < 65536 → has (ids_where p) id ≡ p id
has_small p id small = has-ids_where p id ∙ grind (arith, nat_tests)

pub told : (p : ℕ → Bool) → list_of (ids_where p) ≡ ids_where p
told p = same_ids _ p (λ k small. has_small p k small)

rising_range : (n m : ℕ) → IsStrictlyIncreasing (range_with_len n m)
rising_range n m k h =
    let len = length-range_with_len n m in
    let here : get_or (range_with_len n m) k 0 ≡ n + k = get_or-range_with_len n m k 0 (omega arith) in
    let next : get_or (range_with_len n m) (k + 1) 0 ≡ n + (k + 1) = get_or-range_with_len n m (k + 1) 0 (omega arith) in
    omega arith

one_small : (b : Bool) (n : ℕ) (rest : List ℕ) → n < 65536 → All (λ id. id < 65536) rest → All (λ id. id < 65536) (cond b (n ∷ rest) rest)
one_small true n rest h a = All-cons (λ id. id < 65536) n rest h a
one_small false n rest h a = a

all_small : (p : ℕ → Bool) (n m : ℕ) → n + m ≤ 65536 → All (λ id. id < 65536) (filter p (range_with_len n m))
all_small p n zero h = search rules
all_small p n (suc m) h = one_small (p n) n _ (omega arith) (all_small p (n + 1) m (omega arith))

pub set_where : (p : ℕ → Bool) → IsIdSet (ids_where p)
unfolding ids_where
set_where p = record { rising = IsStrictlyIncreasing-filter p (range_with_len 0 65536) (rising_range 0 65536); below = all_small p 0 65536 (omega arith); told = told p }
