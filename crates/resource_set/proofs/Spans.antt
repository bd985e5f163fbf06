-- Ids as runs of neighbours, and ids without others.
use Rattle.std.proofs.Common.{◌≡◌, ℕ, zero, suc, ◌+◌, ◌-◌, ◌<◌, ◌≤◌, Bool, true, false, cond, ◌&&◌, not, eqb, List, [], ◌∷◌, ◌++◌, length, get_or, filter, refl, sym, ap, ap₂, ◌∙◌, arith}
use Rattle.std.specs.Prelude.{flat_map}
use Rattle.std.specs.List.{All, list_all, AllByRecursion, range_with_len}
use Rattle.std.proofs.lemmas.Bool.Decides.{nat_tests}
use Rattle.std.proofs.lemmas.List.Folds.{list_all-append, list_all_at}
use Rattle.std.proofs.lemmas.List.FromFn.{get_or-range_with_len, length-range_with_len}
use Rattle.std.proofs.lemmas.List.Elements.{All-head, All-tail, All-from_recursion}
use Rattle.idset.specs.Ids.{has, ids_where, minus_of, ids_from, IsIdSet}
use Rattle.idset.specs.Runs.{runs, onto_runs}
use Rattle.idset.specs.declared.ranges.IdRange.{IdRange}
use Rattle.resource_set.specs.Units.{without_ids}

abbrev pub IsSmallRange : IdRange → Type 0
IsSmallRange r = (r.first ≤ r.last) × (r.last < 65536)

abbrev spans : List IdRange → List ℕ
spans rs = flat_map (λ r. ids_from r.first r.last) rs

from_first : (a b : ℕ) → a ≤ b → ids_from a b ≡ a ∷ ids_from (a + 1) b
from_first a b h =
    let more : b + 1 - a ≡ suc (b - a) = omega arith in
    let rest : b - a ≡ b + 1 - (a + 1) = omega arith in
    ap (range_with_len a) more ∙ ap (λ n. a ∷ range_with_len (a + 1) n) rest

from_itself : (a : ℕ) → ids_from a a ≡ a ∷ []
from_itself a = let one : a + 1 - a ≡ 1 = omega arith in ap (range_with_len a) one

onto_step : (b : Bool) (id : ℕ) (r : IdRange) (rs : List IdRange) (ids : List ℕ) → eqb r.first (id + 1) ≡ b → id < 65536 → spans (r ∷ rs) ≡ ids → AllByRecursion IsSmallRange (r ∷ rs)
    → (spans (cond b (record { first = id; last = r.last } ∷ rs) (record { first = id; last = id } ∷ r ∷ rs)) ≡ id ∷ ids) × AllByRecursion IsSmallRange (cond b (record { first = id; last = r.last } ∷ rs) (record { first = id; last = id } ∷ r ∷ rs))
onto_step true id r rs ids e h s a =
    let next : r.first ≡ id + 1 = grind (arith, nat_tests) in
    let first : id ≤ r.last = omega (arith, a.0.0) in
    (ap (λ l. l ++ spans rs) (from_first id r.last first) ∙ ap (λ n. id ∷ (ids_from n r.last ++ spans rs)) (sym next) ∙ ap (λ l. id ∷ l) s, ((first, a.0.1), a.1))
onto_step false id r rs ids e h s a = (ap (λ l. l ++ spans (r ∷ rs)) (from_itself id) ∙ ap (λ l. id ∷ l) s, ((omega arith, h), a))

runs_step : (id : ℕ) (rs : List IdRange) (ids : List ℕ) → id < 65536 → spans rs ≡ ids → AllByRecursion IsSmallRange rs → (spans (onto_runs id rs) ≡ id ∷ ids) × AllByRecursion IsSmallRange (onto_runs id rs)
runs_step id [] ids h s a = (ap (λ l. l ++ []) (from_itself id) ∙ ap (λ l. id ∷ l) s, ((omega arith, h), tt))
runs_step id (r ∷ rs) ids h s a = onto_step (eqb r.first (id + 1)) id r rs ids refl h s a

-- the runs of ids have just these
runs_told : (ids : List ℕ) → All (λ id. id < 65536) ids → (spans (runs ids) ≡ ids) × AllByRecursion IsSmallRange (runs ids)
runs_told [] a = (refl, tt)
runs_told (id ∷ ids) a = let rest = runs_told ids (All-tail (λ k. k < 65536) id ids a) in runs_step id (runs ids) ids (All-head (λ k. k < 65536) id ids a) rest.0 rest.1

pub small_runs : (ids : List ℕ) → All (λ id. id < 65536) ids → All IsSmallRange (runs ids)
small_runs ids a = All-from_recursion IsSmallRange (runs ids) (runs_told ids a).1

all_spans : (p : ℕ → Bool) (rs : List IdRange) → list_all p (spans rs) ≡ list_all (λ r. list_all p (ids_from r.first r.last)) rs
all_spans p [] = refl
all_spans p (r ∷ rs) = list_all-append p (ids_from r.first r.last) (spans rs) ∙ ap (λ b. list_all p (ids_from r.first r.last) && b) (all_spans p rs)

-- all ids pass where all runs do
pub all_runs : (p : ℕ → Bool) (ids : List ℕ) → All (λ id. id < 65536) ids → list_all p ids ≡ list_all (λ r. list_all p (ids_from r.first r.last)) (runs ids)
all_runs p ids a = ap (list_all p) (sym (runs_told ids a).0) ∙ all_spans p (runs ids)

-- ---- ids without others

filter-filter : (p q : ℕ → Bool) (xs : List ℕ) → filter q (filter p xs) ≡ filter (λ x. p x && q x) xs
filter-filter p q [] = refl
filter-filter p q (x ∷ xs) = go (p x) (q x) (filter-filter p q xs) refl
  where
    go : (a b : Bool) → filter q (filter p xs) ≡ filter (λ y. p y && q y) xs → q x ≡ b → filter q (cond a (x ∷ filter p xs) (filter p xs)) ≡ cond (a && b) (x ∷ filter (λ y. p y && q y) xs) (filter (λ y. p y && q y) xs)
    go true b h e = ap (λ c. cond c (x ∷ filter q (filter p xs)) (filter q (filter p xs))) e ∙ ap (λ l. cond b (x ∷ l) l) h
    go false b h e = h

-- a set without the ids of another
pub minus_is : (ids taken : List ℕ) → IsIdSet ids → minus_of ids taken ≡ without_ids ids taken
unfolding ids_where
minus_is ids taken set = sym (filter-filter (has ids) (λ id. not (has taken id)) (range_with_len 0 65536)) ∙ ap (filter (λ id. not (has taken id))) set.told

filter-yes : (xs : List ℕ) → filter (λ _. true) xs ≡ xs
filter-yes [] = refl
filter-yes (x ∷ xs) = ap (λ l. x ∷ l) (filter-yes xs)

pub without_none : (ids taken : List ℕ) → taken ≡ [] → without_ids ids taken ≡ ids
without_none ids taken e = ap (without_ids ids) e ∙ filter-yes ids

pub none_left : (ids taken : List ℕ) → length ids ≡ 0 → ids ≡ without_ids ids taken
none_left [] taken e = refl
none_left (x ∷ xs) taken e = absurd (omega arith)

pub is_empty : (ids : List ℕ) → length ids ≡ 0 → ids ≡ []
is_empty [] e = refl
is_empty (x ∷ xs) e = absurd (omega arith)

-- ---- ids of a range, one after another

range_push : (a n : ℕ) → range_with_len a (suc n) ≡ range_with_len a n ++ (a + n) ∷ []
range_push a zero = let here : a ≡ a + 0 = omega arith in ap (λ x. x ∷ []) here
range_push a (suc n) = let here : a + 1 + n ≡ a + suc n = omega arith in ap (λ l. a ∷ l) (range_push (a + 1) n ∙ ap (λ x. range_with_len (a + 1) n ++ x ∷ []) here)

and_true : (a b : Bool) → a ≡ true → b ≡ true → (a && b) ≡ true
and_true a b e f = ap₂ (λ x y. x && y) e f

-- one id more passes
pub passed_more : (p : ℕ → Bool) (first id : ℕ) → first ≤ id → list_all p (range_with_len first (id - first)) ≡ true → p id ≡ true → list_all p (range_with_len first (id + 1 - first)) ≡ true
passed_more p first id h a t =
    let more : id + 1 - first ≡ suc (id - first) = omega arith in
    let at : first + (id - first) ≡ id = omega arith in
    ap (λ n. list_all p (range_with_len first n)) more ∙ ap (list_all p) (range_push first (id - first)) ∙ list_all-append p (range_with_len first (id - first)) ((first + (id - first)) ∷ [])
    ∙ ap (λ n. list_all p (range_with_len first (id - first)) && (p n && true)) at ∙ and_true (list_all p (range_with_len first (id - first))) (p id && true) a (and_true (p id) true t refl)

-- an id that doesn't pass
pub not_passed : (p : ℕ → Bool) (first last id : ℕ) → first ≤ id → id < last + 1 → p id ≡ false → list_all p (ids_from first last) ≡ false
not_passed p first last id h g t =
    let n = last + 1 - first in
    let at : get_or (range_with_len first n) (id - first) 0 ≡ first + (id - first) = get_or-range_with_len first n (id - first) 0 (omega arith) in
    let is : first + (id - first) ≡ id = omega arith in
    list_all_at p (range_with_len first n) (id - first) 0 (omega (arith, length-range_with_len first n)) (ap p (at ∙ is) ∙ t)
