-- The ranges between ranges.
use Rattle.std.proofs.Common.{◌≡◌, ℕ, ◌+◌, ◌-◌, ◌<◌, ◌≤◌, Bool, true, false, cond, not, ◌&&◌, ◌||◌, leb, ltb, List, [], ◌∷◌, ◌++◌, length, get_or, drop, refl, sym, ◌∙◌, append_assoc, arith, add-one, drop-cons}
use Rattle.std.proofs.lemmas.Bool.{false≢true}
use Rattle.std.proofs.lemmas.Bool.Decides.{nat_tests}
use Rattle.std.proofs.lemmas.List.Folds.{list_any-append}
use Rattle.idset.specs.Ranges.{AreApart, is_in, are_in, gap}
use Rattle.idset.specs.declared.ranges.IdRange.{IdRange}
use Rattle.idset.proofs.Spans.{AreApart-earlier, not_before}

abbrev pub no_range : IdRange
no_range = record { first = 0; last = 0 }

-- what is left of ranges, from a place on
pub drop_next : (rs : List IdRange) (i : ℕ) → i < length rs → drop i rs ≡ get_or rs i no_range ∷ drop (i + 1) rs
drop_next rs i h = rw (add-one, drop-cons rs i no_range) refl

-- the gaps before ranges and behind them, from a number on
abbrev pub gaps_from : ℕ → List IdRange → List IdRange
gaps_from next [] = gap next 65536
gaps_from next (r ∷ rs) = gap next r.first ++ gaps_from (r.last + 1) rs

gap-apart : (next first after : ℕ) (rs : List IdRange) → next ≤ first → first ≤ 65536 → first < after → AreApart after rs → AreApart next (gap next first ++ rs)
gap-apart next first after rs h i j a = elim (ltb next first) as (λ b. ltb next first ≡ b → AreApart next (cond b (record { first = next; last = first - 1 } ∷ []) [] ++ rs)) [
  | true ↦ λ e. let some : next < first = grind (arith, nat_tests) in (omega arith, record { some = omega arith; small = omega arith }, AreApart-earlier (first - 1 + 2) after rs (omega arith) a)
  | false ↦ λ e. AreApart-earlier next after rs (omega arith) a
] refl

pub gaps-apart : (rs : List IdRange) (next : ℕ) → next ≤ 65536 → AreApart next rs → AreApart next (gaps_from next rs)
gaps-apart [] next h a = elim (ltb next 65536) as (λ b. ltb next 65536 ≡ b → AreApart next (cond b (record { first = next; last = 65536 - 1 } ∷ []) [])) [
  | true ↦ λ e. let some : next < 65536 = grind (arith, nat_tests) in (omega arith, record { some = omega arith; small = omega arith }, tt)
  | false ↦ λ e. tt
] refl
gaps-apart (r ∷ rs) next h a =
    let some = a.1.some in
    let small = a.1.small in
    gap-apart next r.first (r.last + 1) (gaps_from (r.last + 1) rs) a.0 (omega arith) (omega arith) (gaps-apart rs (r.last + 1) (omega arith) (AreApart-earlier (r.last + 1) (r.last + 2) rs (omega arith) a.2))

gap_has : (next first id : ℕ) → are_in (gap next first) id ≡ (leb next id && ltb id first)
gap_has next first id = elim (ltb next first) as (λ b. ltb next first ≡ b → are_in (cond b (record { first = next; last = first - 1 } ∷ []) []) id ≡ (leb next id && ltb id first)) [
  | true ↦ λ e. let some : next < first = grind (arith, nat_tests) in one_has next first id some
  | false ↦ λ e. grind (arith, nat_tests)
] refl
  where
    one_has : (next first id : ℕ) → next < first → ((leb next id && leb id (first - 1)) || false) ≡ (leb next id && ltb id first)
    one_has next first id h = grind (arith, nat_tests)

-- the gap before a range and the gaps behind it, where nothing of the rest stands before it
others : (next first last id : ℕ) (rest : Bool) → next ≤ first → first ≤ last → (id ≤ last → rest ≡ false)
    → ((leb next id && ltb id first) || (leb (last + 1) id && not rest)) ≡ (leb next id && not ((leb first id && leb id last) || rest))
others next first last id true h i b =
    let past : last < id = past_it last id b in
    grind (arith, nat_tests)
  where
    past_it : (last id : ℕ) → (id ≤ last → true ≡ false) → last < id
    past_it last id b = elim (leb id last) as (λ t. leb id last ≡ t → last < id) [ true ↦ λ e. absurd (false≢true (sym (b (grind (arith, nat_tests))))) | false ↦ λ e. grind (arith, nat_tests) ] refl
others next first last id false h i b = grind (arith, nat_tests)

pub gaps-others : (rs : List IdRange) (next id : ℕ) → AreApart next rs → id < 65536 → are_in (gaps_from next rs) id ≡ (leb next id && not (are_in rs id))
gaps-others [] next id a small = gap_has next 65536 id ∙ grind (arith, nat_tests)
gaps-others (r ∷ rs) next id a small =
    let some = a.1.some in
    list_any-append (λ x. is_in x id) (gap next r.first) (gaps_from (r.last + 1) rs)
    ∙ rw (gap_has next r.first id, gaps-others rs (r.last + 1) id (AreApart-earlier (r.last + 1) (r.last + 2) rs (omega arith) a.2) small)
    (others next r.first r.last id (are_in rs id) a.0 some (λ h. not_before (r.last + 2) rs id a.2 (omega arith)))

-- what a walk over ranges has so far, with the ranges that are left
pub record IsFilling (all gaps : List IdRange) (next : ℕ) (left : List IdRange) : Type 0 where
  pub whole : gaps ++ gaps_from next left ≡ gaps_from 0 all
  pub small : next ≤ 65536
  pub apart : AreApart next left

pub filling_begun : (all gaps : List IdRange) → gaps ≡ [] → AreApart 0 all → IsFilling all gaps 0 all
filling_begun all gaps e a = record { whole = rw e refl; small = omega arith; apart = a }

pub filling_more : (all gaps : List IdRange) (next : ℕ) (r : IdRange) (rs : List IdRange) → IsFilling all gaps next (r ∷ rs) → IsFilling all (gaps ++ gap next r.first) (r.last + 1) rs
filling_more all gaps next r rs f =
    let small = f.apart.1.small in
    record { whole = append_assoc gaps (gap next r.first) (gaps_from (r.last + 1) rs) ∙ f.whole; small = omega arith; apart = AreApart-earlier (r.last + 1) (r.last + 2) rs (omega arith) f.apart.2 }
