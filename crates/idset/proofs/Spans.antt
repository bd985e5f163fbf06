-- The ids of ranges that are apart, range by range.
use Rattle.std.proofs.Common.{◌≡◌, ℕ, suc, zero, ◌+◌, ◌-◌, ◌<◌, ◌≤◌, Bool, true, false, eqb, List, [], ◌∷◌, ◌++◌, filter, refl, ap, subst, zero-add, add-zero, ◌∙◌, arith}
use Rattle.std.specs.List.{range_with_len, flat_map}
use Rattle.std.proofs.lemmas.Bool.Decides.{nat_tests}
use Rattle.std.proofs.lemmas.List.Elements.{filter-append}
use Rattle.idset.specs.Ids.{ids_where, ids_from}
use Rattle.idset.specs.Ranges.{AreApart, is_in, are_in, ids_in}
use Rattle.idset.specs.Runs.{runs, onto_runs}
use Rattle.idset.specs.declared.ranges.IdRange.{IdRange}
use Rattle.idset.proofs.Members.{filter-alike, filter-no, filter-yes}

abbrev pub spans : List IdRange → List ℕ
spans rs = flat_map (λ r. ids_from r.first r.last) rs

-- ranges that are apart from a number on are so from an earlier one on
pub AreApart-earlier : (m n : ℕ) (rs : List IdRange) → m ≤ n → AreApart n rs → AreApart m rs
AreApart-earlier m n [] h a = tt
AreApart-earlier m n (r ∷ rs) h a = (omega arith, a.1, a.2)

pub not_before : (n : ℕ) (rs : List IdRange) (id : ℕ) → AreApart n rs → id < n → are_in rs id ≡ false
not_before n [] id a h = refl
not_before n (r ∷ rs) id a h =
    let some = a.1.some in
    let rest : are_in rs id ≡ false = not_before (r.last + 2) rs id a.2 (omega arith) in
    let here : is_in r id ≡ false = grind (arith, nat_tests) in
    rw (here, rest) refl

pub not_large : (n : ℕ) (rs : List IdRange) (id : ℕ) → AreApart n rs → 65536 ≤ id → are_in rs id ≡ false
not_large n [] id a h = refl
not_large n (r ∷ rs) id a h =
    let small = a.1.small in
    let rest : are_in rs id ≡ false = not_large (r.last + 2) rs id a.2 h in
    let here : is_in r id ≡ false = grind (arith, nat_tests) in
    rw (here, rest) refl

pub range-append : (n a b : ℕ) → range_with_len n (a + b) ≡ range_with_len n a ++ range_with_len (n + a) b
range-append n zero b = rw (zero-add b, add-zero n) refl
range-append n (suc a) b =
    let at : n + 1 + a ≡ n + suc a = omega arith in
    let whole : suc a + b ≡ suc (a + b) = omega arith in
    rw (whole, ← at) (ap (λ xs. n ∷ xs) (range-append (n + 1) a b))

cut : (p : ℕ → Bool) (n a b c : ℕ) → filter p (range_with_len n (a + (b + c))) ≡ filter p (range_with_len n a) ++ (filter p (range_with_len (n + a) b) ++ filter p (range_with_len (n + a + b) c))
cut p n a b c = rw (range-append n a (b + c), range-append (n + a) b c, filter-append p (range_with_len n a) (range_with_len (n + a) b ++ range_with_len (n + a + b) c), filter-append p (range_with_len (n + a) b) (range_with_len (n + a + b) c)) refl

-- the same at the ends x and y of a stretch
cut_at : (p : ℕ → Bool) (n m x y : ℕ) → n ≤ x → x ≤ y → y ≤ n + m → filter p (range_with_len n m) ≡ filter p (range_with_len n (x - n)) ++ (filter p (range_with_len x (y - x)) ++ filter p (range_with_len y (n + m - y)))
cut_at p n m x y h i j =
    let whole : m ≡ (x - n) + ((y - x) + (n + m - y)) = omega arith in
    let at_x : n + (x - n) ≡ x = omega arith in
    let at_y : x + (y - x) ≡ y = omega arith in
    ap (λ k. filter p (range_with_len n k)) whole ∙ cut p n (x - n) (y - x) (n + m - y)
    ∙ ap (λ k. filter p (range_with_len n (x - n)) ++ (filter p (range_with_len k (y - x)) ++ filter p (range_with_len (k + (y - x)) (n + m - y)))) at_x
    ∙ ap (λ k. filter p (range_with_len n (x - n)) ++ (filter p (range_with_len x (y - x)) ++ filter p (range_with_len k (n + m - y)))) at_y

pub spans_from : (rs : List IdRange) (n m : ℕ) → n + m ≡ 65536 → AreApart n rs → filter (are_in rs) (range_with_len n m) ≡ spans rs
spans_from [] n m h a = filter-no (range_with_len n m)
spans_from (r ∷ rs) n m h a =
    let some = a.1.some in
    let small = a.1.small in
    let before : filter (are_in (r ∷ rs)) (range_with_len n (r.first - n)) ≡ [] = filter-alike (are_in (r ∷ rs)) (λ _. false) n (r.first - n) (λ k i j. not_before r.first (r ∷ rs) k (omega arith, a.1, a.2) (omega arith)) ∙ filter-no (range_with_len n (r.first - n)) in
    let inside : filter (are_in (r ∷ rs)) (range_with_len r.first (r.last + 1 - r.first)) ≡ ids_from r.first r.last = filter-alike (are_in (r ∷ rs)) (λ _. true) r.first (r.last + 1 - r.first) (λ k i j. grind (arith, nat_tests)) ∙ filter-yes (ids_from r.first r.last) in
    let alike : filter (are_in (r ∷ rs)) (range_with_len (r.last + 1) (n + m - (r.last + 1))) ≡ filter (are_in rs) (range_with_len (r.last + 1) (n + m - (r.last + 1))) = filter-alike (are_in (r ∷ rs)) (are_in rs) (r.last + 1) (n + m - (r.last + 1)) (λ k i j. grind (arith, nat_tests)) in
    let behind : filter (are_in rs) (range_with_len (r.last + 1) (n + m - (r.last + 1))) ≡ spans rs = spans_from rs (r.last + 1) (n + m - (r.last + 1)) (omega arith) (AreApart-earlier (r.last + 1) (r.last + 2) rs (omega arith) a.2) in
    cut_at (are_in (r ∷ rs)) n m r.first (r.last + 1) (omega arith) (omega arith) (omega arith)
    ∙ rw (before, inside, alike, behind) refl

pub ids_in-spans : (rs : List IdRange) → AreApart 0 rs → ids_in rs ≡ spans rs
unfolding ids_where
ids_in-spans rs a = spans_from rs 0 65536 (omega arith) a

-- one id before runs that begin further on
onto_apart : (id : ℕ) (rs : List IdRange) → AreApart (id + 2) rs → onto_runs id rs ≡ record { first = id; last = id } ∷ rs
onto_apart id [] a = refl
onto_apart id (r ∷ rs) a =
    let other : eqb r.first (id + 1) ≡ false = grind (arith, nat_tests) in
    rw other refl

run_on : (n first : ℕ) (ids : List ℕ) → AreApart (first + n + 2) (runs ids) → runs (range_with_len first (suc n) ++ ids) ≡ record { first = first; last = first + n } ∷ runs ids
run_on zero first ids a =
    let at : first + 0 + 2 ≡ first + 2 = omega arith in
    let end : first + 0 ≡ first = omega arith in
    rw end (onto_apart first (runs ids) (let P : ℕ → Type 0 = λ k. AreApart k (runs ids) in subst P at a))
run_on (suc n) first ids a =
    let at : first + suc n + 2 ≡ first + 1 + n + 2 = omega arith in
    let end : first + 1 + n ≡ first + suc n = omega arith in
    let more = run_on n (first + 1) ids (let P : ℕ → Type 0 = λ k. AreApart k (runs ids) in subst P at a) in
    let next : eqb (first + 1) (first + 1) ≡ true = grind (arith, nat_tests) in
    ap (onto_runs first) more ∙ rw (next, end) refl

pub runs-spans : (rs : List IdRange) (n : ℕ) → AreApart n rs → runs (spans rs) ≡ rs
runs-spans [] n a = refl
runs-spans (r ∷ rs) n a =
    let some = a.1.some in
    let rest : runs (spans rs) ≡ rs = runs-spans rs (r.last + 2) a.2 in
    let count : r.last + 1 - r.first ≡ suc (r.last - r.first) = omega arith in
    let end : r.first + (r.last - r.first) ≡ r.last = omega arith in
    let further : r.first + (r.last - r.first) + 2 ≡ r.last + 2 = omega arith in
    let apart : AreApart (r.first + (r.last - r.first) + 2) (runs (spans rs)) = rw (further, rest) a.2 in
    ap (λ k. runs (range_with_len r.first k ++ spans rs)) count ∙ run_on (r.last - r.first) r.first (spans rs) apart ∙ rw (end, rest) refl
