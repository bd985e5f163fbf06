-- Sets of ids by their ranges.
use Rattle.std.proofs.Common.{◌≡◌, ℕ, suc, ◌+◌, ◌-◌, ◌<◌, ◌≤◌, Bool, true, false, not, ◌&&◌, ◌||◌, eqb, leb, ltb, List, [], ◌∷◌, ◌++◌, map, All, refl, ap, subst, ◌∙◌, append-nil, arith, rules}
use Rattle.std.specs.Prelude.{Some, None, slice_get}
use Rattle.std.specs.List.{range_with_len}
use Rattle.std.proofs.lemmas.Bool.Decides.{nat_tests}
use Rattle.std.proofs.lemmas.List.Folds.{list_any-append}
use Rattle.std.proofs.lemmas.List.Elements.{All-cons}
use Rattle.idset.specs.Ids.{has, ids_where, ids_from, list_of, union_of, minus_of, IsIdSet}
use Rattle.idset.specs.Ranges.{IsRange, AreApart, is_in, are_in, ids_in, single}
use Rattle.idset.specs.Runs.{runs}
use Rattle.idset.specs.declared.ranges.IdRange.{IdRange}
use Rattle.idset.proofs.Members.{same_ids, has-ids_where, has_small, set_where, filter-no}
use Rattle.idset.proofs.Spans.{spans, ids_in-spans, runs-spans, not_large}

pub is_set : (rs : List IdRange) (ids : List ℕ) → ids_in rs ≡ ids → IsIdSet ids
is_set rs ids e = subst IsIdSet e (set_where (are_in rs))

pub no_ids : (rs : List IdRange) → rs ≡ [] → ids_in rs ≡ []
unfolding ids_where
no_ids rs e = ap ids_in e ∙ filter-no (range_with_len 0 65536)

pub one_range : (rs : List IdRange) (first last : ℕ) → rs ≡ record { first = first; last = last } ∷ [] → first ≤ last → last < 65536 → ids_in rs ≡ ids_from first last
one_range rs first last e h i = ap ids_in e ∙ ids_in-spans (record { first = first; last = last } ∷ []) (omega arith, record { some = h; small = i }, tt) ∙ append-nil (ids_from first last)

pub runs_in : (rs : List IdRange) → AreApart 0 rs → runs (ids_in rs) ≡ rs
runs_in rs a = ap runs (ids_in-spans rs a) ∙ runs-spans rs 0 a

pub has-ids_in : (rs : List IdRange) (id : ℕ) → AreApart 0 rs → has (ids_in rs) id ≡ are_in rs id
has-ids_in rs id a = elim (ltb id 65536) as (λ b. ltb id 65536 ≡ b → has (ids_in rs) id ≡ are_in rs id) [
  | true ↦ λ e. has_small (are_in rs) id (grind (arith, nat_tests))
  | false ↦ λ e. has-ids_where (are_in rs) id ∙ none id (are_in rs id) (not_large 0 rs id a (grind (arith, nat_tests)))
] refl
  where
    none : (id : ℕ) (b : Bool) → b ≡ false → (b && ltb id 65536) ≡ b
    none id b e = rw e refl

pub all_ranges : (rs : List IdRange) (n : ℕ) → AreApart n rs → All IsRange rs
all_ranges [] n a = search rules
all_ranges (r ∷ rs) n a = All-cons IsRange r rs a.1 (all_ranges rs (r.last + 2) a.2)

pub first_some : (rs : List IdRange) (r : IdRange) → AreApart 0 rs → slice_get rs 0 ≡ Some r → slice_get (ids_in rs) 0 ≡ Some r.first
first_some [] r a e = cc
first_some (q ∷ rs) r a e =
    let some = a.1.some in
    let count : q.last + 1 - q.first ≡ suc (q.last - q.first) = omega arith in
    let same : q ≡ r = cc in
    ap (λ ids. slice_get ids 0) (ids_in-spans (q ∷ rs) a) ∙ ap (λ n. slice_get (range_with_len q.first n ++ spans rs) 0) count ∙ ap (λ (x : IdRange). Some x.first) same

pub first_none : (rs : List IdRange) → slice_get rs 0 ≡ None → slice_get (ids_in rs) 0 ≡ None
first_none [] e = ap (λ ids. slice_get ids 0) (no_ids [] refl)
first_none (r ∷ rs) e = cc

pub ids_in-append : (xs ys : List IdRange) → AreApart 0 xs → AreApart 0 ys → ids_in (xs ++ ys) ≡ union_of (ids_in xs) (ids_in ys)
ids_in-append xs ys a b = same_ids (are_in (xs ++ ys)) (λ id. has (ids_in xs) id || has (ids_in ys) id)
    (λ id small. list_any-append (λ r. is_in r id) xs ys ∙ rw (has-ids_in xs id a, has-ids_in ys id b) refl)

either : (a b : Bool) → not (not a || b) ≡ (a && not b)
either true b = refl
either false b = refl

pub ids_in-minus : (xs ys gs js rs : List IdRange) → AreApart 0 xs → AreApart 0 ys
    → ((id : ℕ) → id < 65536 → are_in gs id ≡ not (are_in xs id)) → ((id : ℕ) → are_in js id ≡ are_in (gs ++ ys) id) → ((id : ℕ) → id < 65536 → are_in rs id ≡ not (are_in js id))
    → ids_in rs ≡ minus_of (ids_in xs) (ids_in ys)
ids_in-minus xs ys gs js rs a b g j r = same_ids (are_in rs) (λ id. has (ids_in xs) id && not (has (ids_in ys) id))
    (λ id small. r id small ∙ ap not (j id ∙ list_any-append (λ x. is_in x id) gs ys ∙ ap (λ t. t || are_in ys id) (g id small)) ∙ either (are_in xs id) (are_in ys id) ∙ rw (has-ids_in xs id a, has-ids_in ys id b) refl)

are_in-singles : (ids : List ℕ) (id : ℕ) → are_in (map single ids) id ≡ has ids id
are_in-singles [] id = refl
are_in-singles (i ∷ ids) id = rw (are_in-singles ids id) (one i id (has ids id))
  where
    one : (i id : ℕ) (b : Bool) → ((leb i id && leb id i) || b) ≡ (eqb i id || b)
    one i id b = grind (arith, nat_tests)

pub ids_in-singles : (ids : List ℕ) → ids_in (map single ids) ≡ list_of ids
ids_in-singles ids = same_ids (are_in (map single ids)) (has ids) (λ id small. are_in-singles ids id)

pub singles : (ids : List ℕ) → All (λ id. id < 65536) ids → All IsRange (map single ids)
singles [] a = search rules
singles (i ∷ ids) a = All-cons IsRange (single i) (map single ids) (record { some = omega arith; small = a 0 0 (omega arith) }) (singles ids (λ k d h. a (suc k) d (omega arith)))
