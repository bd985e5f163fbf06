-- Spots: their ids in order, those that are free, and what a job takes of them and gives back.
use Rattle.std.proofs.Common.{◌≡◌, ℕ, suc, zero, ◌+◌, ◌<◌, ◌≤◌, Bool, true, false, cond, not, ◌||◌, eqb, inl, inr, List, [], ◌∷◌, length, get_or, take, map, refl, sym, ap, ◌∙◌, subst, arith}
use Rattle.std.specs.Prelude.{All, filter}
use Rattle.std.specs.List.{range_with_len, AllByRecursion as Each}
use Rattle.std.specs.List.Sorted.{IsStrictlyIncreasing}
use Rattle.std.proofs.lemmas.Bool.{cases_lt, eq-eqb, ne_eqb, or_from}
use Rattle.std.proofs.lemmas.List.{length-map}
use Rattle.std.proofs.lemmas.List.Elements.{All-cons, All-head, All-tail, All-nil}
use Rattle.idset.specs.Ids.{has, ids_where, list_of, IsIdSet}
use Rattle.idset.proofs.Members.{filter-alike}
use Rattle.graph_match.specs.declared.spot.Spot.{Spot}
use Rattle.graph_match.specs.Spots.{ids_of, free_ids, free_spot, marked_at}

-- rising numbers below 65,536, from one on
abbrev pub Rising : ℕ → List ℕ → Type 0
Rising n [] = Unit {0}
Rising n (x ∷ xs) = (n ≤ x) × (x < 65536) × Rising (x + 1) xs

pub rising_earlier : (m n : ℕ) (xs : List ℕ) → m ≤ n → Rising n xs → Rising m xs
rising_earlier m n [] h r = tt
rising_earlier m n (x ∷ xs) h r = (omega (arith, r.0), r.1, r.2)

pub rising_of : (n : ℕ) (xs : List ℕ) → (0 < length xs → n ≤ get_or xs 0 0) → IsStrictlyIncreasing xs → All (λ id. id < 65536) xs → Rising n xs
rising_of n [] h i a = tt
rising_of n (x ∷ xs) h i a = (h (omega arith), All-head (λ id. id < 65536) x xs a, rising_of (x + 1) xs next more (All-tail (λ id. id < 65536) x xs a))
  where
    next : 0 < length xs → x + 1 ≤ get_or xs 0 0
    next w = let step : x < get_or (x ∷ xs) 1 0 = i 0 (omega arith) in omega (arith, step)

    more : IsStrictlyIncreasing xs
    more k w = let e : suc k + 1 ≡ suc (k + 1) = omega arith in subst (λ n. get_or xs k 0 < get_or (x ∷ xs) n 0) e (i (suc k) (omega arith))

pub rising_set : (ids : List ℕ) → IsIdSet ids → Rising 0 ids
rising_set ids s = rising_of 0 ids (λ w. omega arith) s.rising s.below

pub rising_take : (k n : ℕ) (xs : List ℕ) → Rising n xs → Rising n (take k xs)
rising_take zero n xs r = tt
rising_take (suc k) n [] r = tt
rising_take (suc k) n (x ∷ xs) r = (r.0, r.1, rising_take k (x + 1) xs r.2)

pub rising_free : (n : ℕ) (spots : List Spot) → Rising n (ids_of spots) → Rising n (free_ids spots)
rising_free n [] r = tt
rising_free n (s ∷ ss) r = at s.free (rising_free (s.id + 1) ss r.2)
  where
    at : (b : Bool) → Rising (s.id + 1) (free_ids ss) → Rising n (ids_of (cond b (s ∷ filter (λ t. t.free) ss) (filter (λ t. t.free) ss)))
    at true more = (r.0, r.1, more)
    at false more = rising_earlier n (s.id + 1) (free_ids ss) (omega (arith, r.0)) more

pub rising_small : (n : ℕ) (xs : List ℕ) → Rising n xs → All (λ id. id < 65536) xs
rising_small n [] r = All-nil (λ id. id < 65536)
rising_small n (x ∷ xs) r = All-cons (λ id. id < 65536) x xs r.1 (rising_small (x + 1) xs r.2)

pub rising_length : (n : ℕ) (xs : List ℕ) → n ≤ 65536 → Rising n xs → length xs + n ≤ 65536
rising_length n [] h r = omega arith
rising_length n (x ∷ xs) h r = let more = rising_length (x + 1) xs (omega (arith, r.1)) r.2 in omega (arith, r.0, more)

pub set_length : (ids : List ℕ) → IsIdSet ids → length ids ≤ 65536
set_length ids s = let h = rising_length 0 ids (omega arith) (rising_set ids s) in omega (arith, h)

not_before : (n id : ℕ) (xs : List ℕ) → Rising n xs → id < n → has xs id ≡ false
not_before n id [] r h = refl
not_before n id (x ∷ xs) r h = or_from (eqb x id) (has xs id) (ne_eqb x id (λ e. let no : ⊥ = omega (arith, r.0, h, e) in no)) (not_before (x + 1) id xs r.2 (omega (arith, r.0, h)))

has_later : (x id : ℕ) (xs : List ℕ) → x < id → has (x ∷ xs) id ≡ has xs id
has_later x id xs h = ap (λ b. b || has xs id) (ne_eqb x id (λ e. let no : ⊥ = omega (arith, h, e) in no))

has_first : (x id : ℕ) (xs : List ℕ) → x ≡ id → has (x ∷ xs) id ≡ true
has_first x id xs e = ap (λ b. b || has xs id) (eq-eqb x id e)

told_from : (m n : ℕ) (xs : List ℕ) → n + m ≡ 65536 → Rising n xs → filter (has xs) (range_with_len n m) ≡ xs
told_from zero n [] e r = refl
told_from zero n (x ∷ xs) e r = let no : ⊥ = omega (arith, e, r.0, r.1) in absurd no
told_from (suc m) n [] e r = told_from m (n + 1) [] (omega arith) tt
told_from (suc m) n (x ∷ xs) e r = elim (cases_lt n x) [
  | inl below ↦
      ap (λ b. cond b (n ∷ filter (has (x ∷ xs)) (range_with_len (n + 1) m)) (filter (has (x ∷ xs)) (range_with_len (n + 1) m))) (not_before (n + 1) n (x ∷ xs) (omega (arith, below), r.1, r.2) (omega arith))
      ∙ told_from m (n + 1) (x ∷ xs) (omega (arith, e)) (omega (arith, below), r.1, r.2)
  | inr above ↦
      let same : x ≡ n = omega (arith, above, r.0) in
      let next : Rising (n + 1) xs = subst (λ k. Rising (k + 1) xs) same r.2 in
      ap (λ b. cond b (n ∷ filter (has (x ∷ xs)) (range_with_len (n + 1) m)) (filter (has (x ∷ xs)) (range_with_len (n + 1) m))) (has_first x n xs same)
      ∙ ap (λ ys. n ∷ ys) (filter-alike (has (x ∷ xs)) (has xs) (n + 1) m (λ k a b. has_later x k xs (omega (arith, a, same))) ∙ told_from m (n + 1) xs (omega (arith, e)) next)
      ∙ ap (λ k. k ∷ xs) (sym same)
]

pub told_rising : (xs : List ℕ) → Rising 0 xs → list_of xs ≡ xs
unfolding ids_where
told_rising xs r = told_from 65536 0 xs (omega arith) r

-- each spot is free just where the test doesn't hold of its id
abbrev pub MarksBy : (ℕ → Bool) → List Spot → Type 0
MarksBy t spots = Each (λ s. s.free ≡ not (t s.id)) spots

pub free_left : (t : ℕ → Bool) (spots : List Spot) → MarksBy t spots → free_ids spots ≡ filter (λ id. not (t id)) (ids_of spots)
free_left t [] m = refl
free_left t (s ∷ ss) m = at s.free (not (t s.id)) m.0 (free_left t ss m.1)
  where
    at : (a b : Bool) → a ≡ b → free_ids ss ≡ filter (λ id. not (t id)) (ids_of ss) → ids_of (cond a (s ∷ filter (λ t. t.free) ss) (filter (λ t. t.free) ss)) ≡ cond b (s.id ∷ filter (λ id. not (t id)) (ids_of ss)) (filter (λ id. not (t id)) (ids_of ss))
    at true true e h = ap (λ ys. s.id ∷ ys) h
    at false false e h = h
    at true false e h = cc
    at false true e h = cc

pub marks_marked : (free : Bool) (t : ℕ → Bool) (ids : List ℕ) (spots : List Spot) → MarksBy t spots → MarksBy (λ id. cond (has ids id) (not free) (t id)) (map (marked_at free ids) spots)
marks_marked free t ids [] m = tt
marks_marked free t ids (s ∷ ss) m = (at (has ids s.id) free, marks_marked free t ids ss m.1)
  where
    at : (h f : Bool) → cond h f s.free ≡ not (cond h (not f) (t s.id))
    at true true = refl
    at true false = refl
    at false f = m.0

pub marks_same : (t u : ℕ → Bool) (spots : List Spot) → ((id : ℕ) → t id ≡ u id) → MarksBy t spots → MarksBy u spots
marks_same t u [] h m = tt
marks_same t u (s ∷ ss) h m = (m.0 ∙ ap not (h s.id), marks_same t u ss h m.1)

pub ids_marked : (free : Bool) (ids : List ℕ) (spots : List Spot) → ids_of (map (marked_at free ids) spots) ≡ ids_of spots
ids_marked free ids [] = refl
ids_marked free ids (s ∷ ss) = ap (λ ys. s.id ∷ ys) (ids_marked free ids ss)

pub ids_fresh : (ids : List ℕ) → ids_of (map free_spot ids) ≡ ids
ids_fresh [] = refl
ids_fresh (id ∷ ids) = ap (λ ys. id ∷ ys) (ids_fresh ids)

pub free_fresh : (ids : List ℕ) → free_ids (map free_spot ids) ≡ ids
free_fresh [] = refl
free_fresh (id ∷ ids) = ap (λ ys. id ∷ ys) (free_fresh ids)

pub marks_fresh : (ids : List ℕ) → MarksBy (λ _. false) (map free_spot ids)
marks_fresh [] = tt
marks_fresh (id ∷ ids) = (refl, marks_fresh ids)

pub spots_length : (spots : List Spot) → IsIdSet (ids_of spots) → length spots ≤ 65536
spots_length spots s = subst (λ n. n ≤ 65536) (length-map spots (λ t. t.id)) (set_length (ids_of spots) s)

-- the lowest ids that are free are the set of themselves
pub lowest_small : (n : ℕ) (spots : List Spot) (ids : List ℕ) → IsIdSet (ids_of spots) → ids ≡ take n (free_ids spots) → All (λ id. id < 65536) ids
lowest_small n spots ids s e = subst (λ xs. All (λ id. id < 65536) xs) (sym e) (rising_small 0 (take n (free_ids spots)) (rising_take n 0 (free_ids spots) (rising_free 0 spots (rising_set (ids_of spots) s))))

pub lowest_told : (n : ℕ) (spots : List Spot) (ids : List ℕ) → IsIdSet (ids_of spots) → ids ≡ take n (free_ids spots) → list_of ids ≡ take n (free_ids spots)
lowest_told n spots ids s e = ap list_of e ∙ told_rising (take n (free_ids spots)) (rising_take n 0 (free_ids spots) (rising_free 0 spots (rising_set (ids_of spots) s)))

pub free_length : (spots : List Spot) → IsIdSet (ids_of spots) → length (free_ids spots) ≤ 65536
free_length spots s = let h = rising_length 0 (free_ids spots) (omega arith) (rising_free 0 spots (rising_set (ids_of spots) s)) in omega (arith, h)
