-- Ranks in order, and lists of different names.
use Rattle.std.proofs.Common.{◌≡◌, ◌≢◌, ℕ, suc, ◌+◌, ◌<◌, Bool, true, false, cond, ◌||◌, ◌&&◌, not, List, [], ◌∷◌, ◌++◌, length, take, drop, get_or, Option, Some, None, eqb, is_eq, refl, sym, ap, ap₂, ◌∙◌, arith, add-one, drop-cons, length-take-le}
use Rattle.std.specs.Ordering.{nat_cmp}
use Rattle.std.specs.Prelude.{Result, Ok, Err, OnOk}
use Rattle.std.proofs.lemmas.Slice.Eq.{bytes_eq-Decides}
use Rattle.resource_set.specs.Units.{AreDistinct}
use Rattle.std.specs.List.{find, list_any}
use Rattle.std.specs.List.Sorted.{IsStrictlyIncreasing}
use Rattle.std.specs.Str.{bytes_eq}
use Rattle.std.proofs.Math.Bool.{or-true, and-false}
use Rattle.std.proofs.lemmas.Bool.Decides.{nat_tests}
use Rattle.std.proofs.lemmas.List.Folds.{list_any-append, list_any_none, list_any_at}
use Rattle.std.proofs.lemmas.List.Kept.{AllPairs-from_increasing}
use Rattle.idset.specs.Ids.{has}
use Rattle.resource_set.specs.Reading.{are_distinct, unless_twice}
use Rattle.resource_set.proofs.Booleans.{agree, same_name}

-- the numbers are the same just where they rank alike
pub is_eq-nat_cmp : (a b : ℕ) → is_eq (nat_cmp a b) ≡ eqb a b
is_eq-nat_cmp a b = grind (arith, nat_tests)

-- a number of a rising list stands at no earlier place
not_before : (xs : List ℕ) (i : ℕ) → IsStrictlyIncreasing xs → i < length xs → has (take i xs) (get_or xs i 0) ≡ false
not_before xs i up h = list_any_none (λ x. eqb x (get_or xs i 0)) (take i xs) (λ k d m. earlier k d m)
  where
    earlier : (k d : ℕ) → k < length (take i xs) → eqb (get_or (take i xs) k d) (get_or xs i 0) ≡ false
    earlier k d m =
        let len : length (take i xs) ≡ i = length-take-le i xs (omega arith) in
        let below : k < i = omega arith in
        let less : get_or xs k 0 < get_or xs i 0 = AllPairs-from_increasing xs up k i 0 below h in
        let at : get_or (take i xs) k d ≡ get_or xs k 0 = grind (arith, Rattle.std.proofs.lemmas.Grind.common_steps) in
        grind (arith, nat_tests)

pub cond_twice : {X : Type 0} (a b : Bool) (x y : X) → cond a x (cond b x y) ≡ cond (b || a) x y
cond_twice true true x y = refl
cond_twice true false x y = refl
cond_twice false true x y = refl
cond_twice false false x y = refl

cond_no : {X : Type 0} (b : Bool) (x y : X) → b ≡ false → cond b x y ≡ y
cond_no true x y e = cc
cond_no false x y e = refl

-- the first element passes, or it doesn't
pub find_here : (p : ℕ → Bool) (xs : List ℕ) (i : ℕ) → i < length xs → p (get_or xs i 0) ≡ true → find p (drop i xs) ≡ Some (get_or xs i 0)
find_here p xs i h t = ap (find p) (drop-cons xs i 0 h) ∙ ap (λ b. cond b (Some (get_or xs i 0)) (find p (drop (suc i) xs))) t

pub find_behind : (p : ℕ → Bool) (xs : List ℕ) (i : ℕ) → i < length xs → p (get_or xs i 0) ≡ false → find p (drop i xs) ≡ find p (drop (i + 1) xs)
find_behind p xs i h t = ap (find p) (drop-cons xs i 0 h) ∙ ap (λ b. cond b (Some (get_or xs i 0)) (find p (drop (suc i) xs))) t ∙ ap (λ n. find p (drop n xs)) (sym (add-one i))

-- a rank of a rising list isn't placed before its turn
pub unplaced : (ranks : List ℕ) (i place : ℕ) (now old : ℕ → Option ℕ) → IsStrictlyIncreasing ranks → i < length ranks → ((rank : ℕ) → now rank ≡ cond (has (take i ranks) rank) (Some place) (old rank))
    → now (get_or ranks i 0) ≡ old (get_or ranks i 0)
unplaced ranks i place now old up inside placed =
    let rank = get_or ranks i 0 in
    placed rank ∙ cond_no (has (take i ranks) rank) (Some place) (old rank) (not_before ranks i up inside)

-- no rank stands twice where all goes well
pub no_twice : (o : Option ℕ) → unless_twice o ≡ Ok 0 → o ≡ None
no_twice None h = refl
no_twice (Some r) h = cc

-- what holds in any case
pub on_ok : {X E : Type 0} (r : Result X E) (P : Type 0) → P → OnOk r P
on_ok (Ok x) P h = h
on_ok (Err e) P h = tt

-- ---- names

pub cond_or : (a b : Bool) → cond a true b ≡ (b || a)
cond_or true true = refl
cond_or true false = refl
cond_or false true = refl
cond_or false false = refl

pub not_is : (a b : Bool) → not a ≡ b → a ≡ not b
not_is true b h = ap not h
not_is false b h = ap not h

pub bytes_eq_back : (a b : List ℕ) → bytes_eq a b ≡ bytes_eq b a
bytes_eq_back a b = agree (bytes_eq a b) (bytes_eq b a) (λ t. (bytes_eq-Decides b a).1 (sym (same_name a b t))) (λ t. (bytes_eq-Decides a b).1 (sym (same_name b a t)))

among : (x y : List ℕ) (xs zs : List (List ℕ)) → bytes_eq y x ≡ true → list_any (bytes_eq x) (xs ++ y ∷ zs) ≡ true
among x y xs zs e = list_any-append (bytes_eq x) xs (y ∷ zs) ∙ ap (λ b. list_any (bytes_eq x) xs || (b || list_any (bytes_eq x) zs)) (bytes_eq_back x y ∙ e) ∙ or-true (list_any (bytes_eq x) xs)

twice_step : (y x : List ℕ) (xs zs : List (List ℕ)) (b : Bool) → bytes_eq y x ≡ b → (b || list_any (bytes_eq y) xs) ≡ true → (list_any (bytes_eq y) xs ≡ true → are_distinct (xs ++ y ∷ zs) ≡ false) → (not (list_any (bytes_eq x) (xs ++ y ∷ zs)) && are_distinct (xs ++ y ∷ zs)) ≡ false
twice_step y x xs zs true e t f = ap (λ a. not a && are_distinct (xs ++ y ∷ zs)) (among x y xs zs e)
twice_step y x xs zs false e t f = ap (λ a. not (list_any (bytes_eq x) (xs ++ y ∷ zs)) && a) (f t) ∙ and-false (not (list_any (bytes_eq x) (xs ++ y ∷ zs)))

twice : (y : List ℕ) (xs zs : List (List ℕ)) → list_any (bytes_eq y) xs ≡ true → are_distinct (xs ++ y ∷ zs) ≡ false
twice y [] zs h = cc
twice y (x ∷ xs) zs h = twice_step y x xs zs (bytes_eq y x) refl h (λ t. twice y xs zs t)

-- a name that stands before
pub repeated : (names : List (List ℕ)) (i : ℕ) (name : List ℕ) → i < length names → name ≡ get_or names i name → list_any (bytes_eq name) (take i names) ≡ true → are_distinct names ≡ false
repeated names i name h is t =
    let cut : take i names ++ (get_or names i name ∷ drop (suc i) names) ≡ names = ap (λ r. take i names ++ r) (sym (drop-cons names i name h)) ∙ Rattle.std.proofs.Common.take-append-drop i names in
    sym (ap are_distinct (ap (λ n. take i names ++ (n ∷ drop (suc i) names)) is ∙ cut)) ∙ twice name (take i names) (drop (suc i) names) t

push_step : (x y : List ℕ) (xs : List (List ℕ)) (a b c e : Bool) → list_any (bytes_eq x) xs ≡ a → are_distinct xs ≡ b → bytes_eq y x ≡ c → list_any (bytes_eq y) xs ≡ e → (not a && b) ≡ true → (c || e) ≡ false
    → (are_distinct xs ≡ true → list_any (bytes_eq y) xs ≡ false → are_distinct (xs ++ y ∷ []) ≡ true) → (not (list_any (bytes_eq x) (xs ++ y ∷ [])) && are_distinct (xs ++ y ∷ [])) ≡ true
push_step x y xs false true false false ai bi ci ei t f ih = ap₂ (λ p q. not p && q) (list_any-append (bytes_eq x) xs (y ∷ []) ∙ ap₂ (λ p q. p || (q || false)) ai (bytes_eq_back x y ∙ ci)) (ih bi ei)
push_step x y xs true b c e ai bi ci ei t f ih = cc
push_step x y xs false false c e ai bi ci ei t f ih = cc
push_step x y xs false true true e ai bi ci ei t f ih = cc
push_step x y xs false true false true ai bi ci ei t f ih = cc

-- one name more that doesn't stand before
pub distinct_push : (xs : List (List ℕ)) (y : List ℕ) → are_distinct xs ≡ true → list_any (bytes_eq y) xs ≡ false → are_distinct (xs ++ y ∷ []) ≡ true
distinct_push [] y d h = refl
distinct_push (x ∷ xs) y d h = push_step x y xs (list_any (bytes_eq x) xs) (are_distinct xs) (bytes_eq y x) (list_any (bytes_eq y) xs) refl refl refl refl d h (λ e f. distinct_push xs y e f)

other : (x : List ℕ) (xs : List (List ℕ)) (k : ℕ) (e : List ℕ) → list_any (bytes_eq x) xs ≡ false → k < length xs → x ≢ get_or xs k e
other x xs k e none h = λ same. let met : list_any (bytes_eq x) xs ≡ true = list_any_at (bytes_eq x) xs k e h ((bytes_eq-Decides x (get_or xs k e)).1 same) in cc

told_step : (x : List ℕ) (xs : List (List ℕ)) (a b : Bool) → list_any (bytes_eq x) xs ≡ a → are_distinct xs ≡ b → (not a && b) ≡ true → (are_distinct xs ≡ true → AreDistinct xs) → AreDistinct (x ∷ xs)
told_step x xs false true none is t ih = ((λ k e h. other x xs k e none h), ih is)
told_step x xs true b none is t ih = cc
told_step x xs false false none is t ih = cc

-- what the test tells
pub distinct_told : (names : List (List ℕ)) → are_distinct names ≡ true → AreDistinct names
distinct_told [] d = tt
distinct_told (x ∷ xs) d = told_step x xs (list_any (bytes_eq x) xs) (are_distinct xs) refl refl d (λ e. distinct_told xs e)
