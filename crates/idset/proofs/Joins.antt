-- Sorted ranges, joined one after another.
use Rattle.std.proofs.Common.{◌≡◌, ℕ, suc, ◌+◌, ◌<◌, ◌≤◌, max, Bool, true, false, cond, ◌&&◌, ◌||◌, leb, List, [], ◌∷◌, ◌++◌, length, get_or, All, refl, ap, ◌∙◌, append_assoc, arith}
use Rattle.std.proofs.lemmas.Bool.Decides.{nat_tests}
use Rattle.std.specs.List.Sorted.{IsNonDecreasingBy}
use Rattle.std.proofs.lemmas.List.Elements.{All-tail, All-head}
use Rattle.idset.specs.Ranges.{IsRange, AreApart, AreSorted, is_in, are_in}
use Rattle.idset.specs.declared.ranges.IdRange.{IdRange}

abbrev no_range : IdRange
no_range = record { first = 0; last = 0 }

-- the ranges that a leading one and later ones are joined to
abbrev pub joined_onto : IdRange → List IdRange → List IdRange
joined_onto lead [] = lead ∷ []
joined_onto lead (r ∷ rs) = cond (leb r.first (lead.last + 1)) (joined_onto (record { first = lead.first; last = max lead.last r.last }) rs) (lead ∷ joined_onto r rs)

pub AreSorted-earlier : (m n : ℕ) (rs : List IdRange) → m ≤ n → AreSorted n rs → AreSorted m rs
AreSorted-earlier m n [] h a = tt
AreSorted-earlier m n (r ∷ rs) h a = (omega arith, a.1, a.2)

max_small : (a b : ℕ) → a < 65536 → b < 65536 → max a b < 65536
max_small a b h i = omega arith

-- a range that begins within another one, or right behind it, lengthens it
spread : (a b c d id : ℕ) (more : Bool) → a ≤ c → c ≤ b + 1 → a ≤ b → c ≤ d → ((leb a id && leb id (max b d)) || more) ≡ ((leb a id && leb id b) || ((leb c id && leb id d) || more))
spread a b c d id true h i j k = grind (arith, nat_tests)
spread a b c d id false h i j k = grind (arith, nat_tests)

pub joined-apart : (rs : List IdRange) (n : ℕ) (lead : IdRange) → n ≤ lead.first → IsRange lead → AreSorted lead.first rs → AreApart n (joined_onto lead rs)
joined-apart [] n lead h i s = (h, i, tt)
joined-apart (r ∷ rs) n lead h i s =
    let some = s.1.some in
    let small = s.1.small in
    let some_here = i.some in
    let small_here = i.small in
    elim (leb r.first (lead.last + 1)) as (λ b. leb r.first (lead.last + 1) ≡ b → AreApart n (cond b (joined_onto (record { first = lead.first; last = max lead.last r.last }) rs) (lead ∷ joined_onto r rs))) [
      | true ↦ λ e. joined-apart rs n (record { first = lead.first; last = max lead.last r.last }) h (record { some = omega arith; small = omega arith }) (AreSorted-earlier lead.first r.first rs s.0 s.2)
      | false ↦ λ e. let far : lead.last + 2 ≤ r.first = grind (arith, nat_tests) in (h, i, joined-apart rs (lead.last + 2) r far s.1 s.2)
    ] refl

pub joined-same : (rs : List IdRange) (lead : IdRange) (id : ℕ) → IsRange lead → AreSorted lead.first rs → are_in (joined_onto lead rs) id ≡ (is_in lead id || are_in rs id)
joined-same [] lead id i s = refl
joined-same (r ∷ rs) lead id i s =
    let some = s.1.some in
    let some_here = i.some in
    elim (leb r.first (lead.last + 1)) as (λ b. leb r.first (lead.last + 1) ≡ b → are_in (cond b (joined_onto (record { first = lead.first; last = max lead.last r.last }) rs) (lead ∷ joined_onto r rs)) id ≡ (is_in lead id || are_in (r ∷ rs) id)) [
      | true ↦ λ e. joined-same rs (record { first = lead.first; last = max lead.last r.last }) id (record { some = omega arith; small = max_small _ _ i.small s.1.small }) (AreSorted-earlier lead.first r.first rs s.0 s.2) ∙ spread lead.first lead.last r.first r.last id (are_in rs id) s.0 (grind (arith, nat_tests)) some_here some
      | false ↦ λ e. ap (λ b. is_in lead id || b) (joined-same rs r id s.1 s.2)
    ] refl

-- what a walk over sorted ranges has so far, with the range that leads and those that are left
pub record IsJoining (first : IdRange) (all done : List IdRange) (lead : IdRange) (left : List IdRange) : Type 0 where
  pub whole : done ++ joined_onto lead left ≡ joined_onto first all
  pub some : IsRange lead
  pub sorted : AreSorted lead.first left

pub joining_begun : (first : IdRange) (all done : List IdRange) → done ≡ [] → AreSorted 0 (first ∷ all) → IsJoining first all done first all
joining_begun first all done e s = record { whole = rw e refl; some = s.1; sorted = s.2 }

pub joining_near : (first : IdRange) (all done : List IdRange) (lead r : IdRange) (rs : List IdRange) → IsJoining first all done lead (r ∷ rs) → r.first ≤ lead.last + 1 → IsJoining first all done (record { first = lead.first; last = max lead.last r.last }) rs
joining_near first all done lead r rs j near =
    let some = j.some.some in
    let test : leb r.first (lead.last + 1) ≡ true = grind (arith, nat_tests) in
    record {
      whole = rw test at j.whole;
      some = record { some = omega arith; small = max_small _ _ j.some.small j.sorted.1.small };
      sorted = AreSorted-earlier lead.first r.first rs j.sorted.0 j.sorted.2;
    }

pub joining_far : (first : IdRange) (all done : List IdRange) (lead r : IdRange) (rs : List IdRange) → IsJoining first all done lead (r ∷ rs) → lead.last + 1 < r.first → IsJoining first all (done ++ lead ∷ []) r rs
joining_far first all done lead r rs j far =
    let test : leb r.first (lead.last + 1) ≡ false = grind (arith, nat_tests) in
    record { whole = append_assoc done (lead ∷ []) (joined_onto r rs) ∙ (rw test at j.whole); some = j.sorted.1; sorted = j.sorted.2 }

pub joining_apart : (first : IdRange) (all done : List IdRange) (lead : IdRange) → AreSorted 0 (first ∷ all) → IsJoining first all done lead [] → AreApart 0 (done ++ lead ∷ [])
joining_apart first all done lead s j = rw j.whole (joined-apart all 0 first (omega arith) s.1 s.2)

pub joining_same : (first : IdRange) (all done : List IdRange) (lead : IdRange) (id : ℕ) → AreSorted 0 (first ∷ all) → IsJoining first all done lead [] → are_in (done ++ lead ∷ []) id ≡ are_in (first ∷ all) id
joining_same first all done lead id s j = rw j.whole (joined-same all first id s.1 s.2)

-- ranges that a sort has left in the order of their first ids
pub sorted_from : (rs : List IdRange) (n : ℕ) → (0 < length rs → n ≤ (get_or rs 0 no_range).first) → IsNonDecreasingBy (λ r. r.first) rs → All IsRange rs → AreSorted n rs
sorted_from [] n h up all = tt
sorted_from (r ∷ rs) n h up all = (
  h (omega arith),
  All-head IsRange r rs all,
  sorted_from rs r.first (λ some. up 0 1 no_range (omega arith) (omega arith)) (λ i j d le lt. up (suc i) (suc j) d (omega arith) (omega arith)) (All-tail IsRange r rs all),
)
