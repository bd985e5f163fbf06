-- Walks over ranges that are apart.
use Rattle.std.proofs.Common.{◌≡◌, ℕ, suc, zero, ◌+◌, ◌-◌, ◌<◌, ◌≤◌, false, ◌&&◌, ◌||◌, leb, List, [], ◌∷◌, ◌++◌, length, get_or, refl, ap, ◌∙◌, append_assoc, length-append, arith}
use Rattle.std.proofs.lemmas.Bool.Decides.{nat_tests}
use Rattle.std.proofs.lemmas.List.FromFn.{length-range_with_len}
use Rattle.idset.specs.Ids.{ids_from}
use Rattle.idset.specs.Ranges.{AreApart, is_in, are_in}
use Rattle.idset.specs.declared.ranges.IdRange.{IdRange}
use Rattle.idset.proofs.Spans.{spans, not_before}

-- how many ids are counted so far, with the ranges that are left
pub record IsCounting (all : List IdRange) (count : ℕ) (left : List IdRange) : Type 0 where
  pub whole : count + length (spans left) ≡ length (spans all)
  pub next : ℕ
  pub few : count ≤ next
  pub apart : AreApart next left

pub counting_begun : (all : List IdRange) → AreApart 0 all → IsCounting all 0 all
counting_begun all a = record { whole = omega arith; next = 0; few = omega arith; apart = a }

pub counting_more : (all : List IdRange) (count : ℕ) (r : IdRange) (rs : List IdRange) → IsCounting all count (r ∷ rs) → IsCounting all (count + (r.last - r.first + 1)) rs
counting_more all count r rs c =
    let some = c.apart.1.some in
    let from = c.apart.0 in
    let len : length (spans (r ∷ rs)) ≡ (r.last + 1 - r.first) + length (spans rs) = length-append (ids_from r.first r.last) (spans rs) ∙ ap (λ n. n + length (spans rs)) (length-range_with_len r.first (r.last + 1 - r.first)) in
    let whole = c.whole in
    let few = c.few in
    record { whole = omega arith; next = r.last + 2; few = omega arith; apart = c.apart.2 }

-- the ids that are listed so far, with the ranges that are left
pub record IsListing (all : List IdRange) (ids : List ℕ) (left : List IdRange) : Type 0 where
  pub whole : ids ++ spans left ≡ spans all
  pub next : ℕ
  pub apart : AreApart next left

pub listing_begun : (all : List IdRange) (ids : List ℕ) → ids ≡ [] → AreApart 0 all → IsListing all ids all
listing_begun all ids e a = record { whole = rw e refl; next = 0; apart = a }

pub listing_more : (all : List IdRange) (ids : List ℕ) (r : IdRange) (rs : List IdRange) → IsListing all ids (r ∷ rs) → IsListing all (ids ++ ids_from r.first r.last) rs
listing_more all ids r rs l = record { whole = append_assoc ids (ids_from r.first r.last) (spans rs) ∙ l.whole; next = r.last + 2; apart = l.apart.2 }

-- the range at the first place whose last id isn't below an id
pub found_at : (rs : List IdRange) (n place id : ℕ) (d : IdRange) → AreApart n rs → place < length rs → ((k : ℕ) → k < place → (get_or rs k d).last < id) → id ≤ (get_or rs place d).last
    → are_in rs id ≡ leb (get_or rs place d).first id
found_at [] n place id d a h b e = elim h [ ]
found_at (r ∷ rs) n zero id d a h b e =
    let rest : are_in rs id ≡ false = not_before (r.last + 2) rs id a.2 (omega arith) in
    rw rest (one r.first r.last id e)
  where
    one : (first last id : ℕ) → id ≤ last → ((leb first id && leb id last) || false) ≡ leb first id
    one first last id h = grind (arith, nat_tests)
found_at (r ∷ rs) n (suc place) id d a h b e =
    let past : r.last < id = b 0 (omega arith) in
    let here : is_in r id ≡ false = grind (arith, nat_tests) in
    rw here (found_at rs (r.last + 2) place id d a.2 (omega arith) (λ k i. b (suc k) (omega arith)) e)

pub found_nowhere : (rs : List IdRange) (id : ℕ) (d : IdRange) → ((k : ℕ) → k < length rs → (get_or rs k d).last < id) → are_in rs id ≡ false
found_nowhere [] id d b = refl
found_nowhere (r ∷ rs) id d b =
    let past : r.last < id = b 0 (omega arith) in
    let here : is_in r id ≡ false = grind (arith, nat_tests) in
    rw here (found_nowhere rs id d (λ k i. b (suc k) (omega arith)))

pub lasts_rise : (rs : List IdRange) (n : ℕ) (i j : ℕ) (d : IdRange) → AreApart n rs → i ≤ j → j < length rs → (get_or rs i d).last ≤ (get_or rs j d).last
lasts_rise [] n i j d a h k = elim k [ ]
lasts_rise (r ∷ rs) n zero zero d a h k = omega arith
lasts_rise (r ∷ rs) n zero (suc j) d a h k = omega (arith, past rs (r.last + 2) j d a.2 (omega arith))
  where
    past : (rs : List IdRange) (n : ℕ) (j : ℕ) (d : IdRange) → AreApart n rs → j < length rs → n ≤ (get_or rs j d).last
    past [] n j d a h = elim h [ ]
    past (r ∷ rs) n zero d a h = let some = a.1.some in omega arith
    past (r ∷ rs) n (suc j) d a h = let some = a.1.some in omega (arith, past rs (r.last + 2) j d a.2 (omega arith))
lasts_rise (r ∷ rs) n (suc i) zero d a h k = absurd (omega arith)
lasts_rise (r ∷ rs) n (suc i) (suc j) d a h k = lasts_rise rs (r.last + 2) i j d a.2 (omega arith) (omega arith)
