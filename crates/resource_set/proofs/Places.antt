-- The first element that passes a test, and its place.
use Rattle.std.proofs.Common.{◌≡◌, ℕ, zero, suc, ◌+◌, Bool, true, false, cond, ◌||◌, List, [], ◌∷◌, ◌++◌, length, take, get_or, ◌<◌, Option, Some, None, Bor, is_some, eqb, refl, sym, ap, ◌∙◌, add-one, arith}
use Rattle.std.specs.Prelude.{option_map, slice_get, option_copied}
use Rattle.std.specs.List.{find, list_any, ItemBy}
use Rattle.std.proofs.lemmas.List.{take_more}
use Rattle.std.proofs.lemmas.Option.{slice_get_past, slice_get-get_or}
use Rattle.std.proofs.lemmas.Bool.Decides.{nat_tests}
use Rattle.idset.specs.Ids.{has}
use Rattle.resource_set.specs.Places.{place_of}

abbrev next : Option ℕ → Option ℕ
next o = option_map (λ n. n + 1) o

-- the first of two places, if there is one
abbrev pub or_place : Option ℕ → Option ℕ → Option ℕ
or_place None later = later
or_place (Some n) later = Some n

push_step : (b : Bool) (o q : Option ℕ) (c : Bool) (n : ℕ) → q ≡ or_place o (cond c (Some n) None) → cond b (Some 0) (next q) ≡ or_place (cond b (Some 0) (next o)) (cond c (Some (suc n)) None)
push_step true o q c n h = refl
push_step false None q true n h = ap next h ∙ ap Some (add-one n)
push_step false None q false n h = ap next h
push_step false (Some k) q c n h = ap next h

-- with one element more
pub place_of-push : {A : Type 0} (p : A → Bool) (xs : List A) (y : A) → place_of p (xs ++ y ∷ []) ≡ or_place (place_of p xs) (cond (p y) (Some (length xs)) None)
place_of-push p [] y = refl
place_of-push p (x ∷ xs) y = push_step (p x) (place_of p xs) (place_of p (xs ++ y ∷ [])) (p y) (length xs) (place_of-push p xs y)

any_step : (b : Bool) (o : Option ℕ) (r : Bool) → is_some o ≡ r → is_some (cond b (Some 0) (next o)) ≡ (b || r)
any_step true o r h = refl
any_step false None r h = h
any_step false (Some n) r h = h

-- there is a place just where some element passes
pub is_some-place_of : {A : Type 0} (p : A → Bool) (xs : List A) → is_some (place_of p xs) ≡ list_any p xs
is_some-place_of p [] = refl
is_some-place_of p (x ∷ xs) = any_step (p x) (place_of p xs) (list_any p xs) (is_some-place_of p xs)

get_step : {A : Type 0} (b : Bool) (o : Option ℕ) (x : A) (xs : List A) (f : Option A) (i : ℕ) → cond b (Some 0) (next o) ≡ Some i → ((j : ℕ) → o ≡ Some j → f ≡ slice_get xs j) → cond b (Some x) f ≡ slice_get (x ∷ xs) i
get_step true o x xs f i h g = let zero_is : 0 ≡ i = cc in ap (slice_get (x ∷ xs)) zero_is
get_step false None x xs f i h g = cc
get_step false (Some j) x xs f i h g = let next_is : j + 1 ≡ i = cc in g j refl ∙ ap (slice_get (x ∷ xs)) (sym (add-one j) ∙ next_is)

-- the element at the place is the first that passes
pub find-place_of : {A : Type 0} (p : A → Bool) (xs : List A) (i : ℕ) → place_of p xs ≡ Some i → find p xs ≡ slice_get xs i
find-place_of p [] i h = cc
find-place_of p (x ∷ xs) i h = get_step (p x) (place_of p xs) x xs (find p xs) i h (λ j e. find-place_of p xs j e)

none_step : {A : Type 0} (b : Bool) (o : Option ℕ) (x : A) (f : Option A) → cond b (Some 0) (next o) ≡ None → (o ≡ None → f ≡ None) → cond b (Some x) f ≡ None
none_step true o x f h g = cc
none_step false None x f h g = g refl
none_step false (Some j) x f h g = cc

pub find-no_place : {A : Type 0} (p : A → Bool) (xs : List A) → place_of p xs ≡ None → find p xs ≡ None
find-no_place p [] h = refl
find-no_place p (x ∷ xs) h = none_step (p x) (place_of p xs) x (find p xs) h (λ e. find-no_place p xs e)

-- tests that agree find the same
pub find-alike : {A : Type 0} (p q : A → Bool) (xs : List A) → ((x : A) → p x ≡ q x) → find p xs ≡ find q xs
find-alike p q [] h = refl
find-alike p q (x ∷ xs) h = ap (λ b. cond b (Some x) (find p xs)) (h x) ∙ ap (λ f. cond (q x) (Some x) f) (find-alike p q xs h)

unfound_step : (p : ℕ → Bool) (b c d : Bool) (x k : ℕ) (f : Option ℕ) → p x ≡ b → eqb x k ≡ c → cond b (Some x) f ≡ None → (c || d) ≡ true → (f ≡ None → d ≡ true → p k ≡ false) → p k ≡ false
unfound_step p true c d x k f e s h t g = cc
unfound_step p false true d x k f e s h t g = let same : x ≡ k = grind (arith, nat_tests) in sym (ap p same) ∙ e
unfound_step p false false d x k f e s h t g = g h t

-- where none is found, no id of the list passes
pub not_found : (p : ℕ → Bool) (xs : List ℕ) (k : ℕ) → find p xs ≡ None → has xs k ≡ true → p k ≡ false
not_found p [] k h t = cc
not_found p (x ∷ xs) k h t = unfound_step p (p x) (eqb x k) (has xs k) x k (find p xs) refl refl h t (λ e s. not_found p xs k e s)

-- what `get` gives is the element at the place
pub item_got : {X : Type 0} (xs : List X) (i : ℕ) (r : Option (Bor X)) → ItemBy (λ (x : Bor X). x.now) xs i i r → option_copied r ≡ slice_get xs i
item_got xs i None h = sym (slice_get_past xs i h.3)
item_got xs i (Some x) h = ap Some (h.3.1 x.now) ∙ sym (slice_get-get_or xs i x.now h.3.0)

true_step : {A : Type 0} (p : A → Bool) (b : Bool) (o : Option ℕ) (x : A) (xs : List A) (i : ℕ) (d : A) → p x ≡ b → cond b (Some 0) (next o) ≡ Some i → ((j : ℕ) → o ≡ Some j → p (get_or xs j d) ≡ true) → p (get_or (x ∷ xs) i d) ≡ true
true_step p true o x xs i d e h g = let first : 0 ≡ i = cc in ap (λ n. p (get_or (x ∷ xs) n d)) (sym first) ∙ e
true_step p false None x xs i d e h g = cc
true_step p false (Some j) x xs i d e h g = let further : j + 1 ≡ i = cc in ap (λ n. p (get_or (x ∷ xs) n d)) (sym further ∙ add-one j) ∙ g j refl

-- the element at the place passes
pub place_of-true : {A : Type 0} (p : A → Bool) (xs : List A) (i : ℕ) (d : A) → place_of p xs ≡ Some i → p (get_or xs i d) ≡ true
place_of-true p [] i d h = cc
place_of-true p (x ∷ xs) i d h = true_step p (p x) (place_of p xs) x xs i d refl h (λ j e. place_of-true p xs j d e)

reach_step : (b : Bool) (o q : Option ℕ) (j : ℕ) → cond b (Some 0) (next o) ≡ None → (o ≡ None → q ≡ Some j) → cond b (Some 0) (next q) ≡ Some (suc j)
reach_step true o q j h g = cc
reach_step false None q j h g = ap next (g refl) ∙ ap Some (add-one j)
reach_step false (Some k) q j h g = cc

-- a walk comes to the first place
pub place_reached : {A : Type 0} (p : A → Bool) (xs : List A) (i : ℕ) (d : A) → i < length xs → place_of p (take i xs) ≡ None → p (get_or xs i d) ≡ true → place_of p xs ≡ Some i
place_reached p [] i d h n t = absurd (omega arith)
place_reached p (x ∷ xs) zero d h n t = ap (λ b. cond b (Some 0) (next (place_of p xs))) t
place_reached p (x ∷ xs) (suc j) d h n t = reach_step (p x) (place_of p (take j xs)) (place_of p xs) j n (λ e. place_reached p xs j d (omega arith) e t)

-- and passes over what doesn't pass
pub place_passed : {A : Type 0} (p : A → Bool) (xs : List A) (i : ℕ) (d : A) → i < length xs → place_of p (take i xs) ≡ None → p (get_or xs i d) ≡ false → place_of p (take (i + 1) xs) ≡ None
place_passed p xs i d h n t = ap (place_of p) (take_more xs i d h) ∙ place_of-push p (take i xs) (get_or xs i d)
    ∙ ap (λ o. or_place o (cond (p (get_or xs i d)) (Some (length (take i xs))) None)) n ∙ ap (λ b. cond b (Some (length (take i xs))) None) t

inside_step : (b : Bool) (o : Option ℕ) (n i : ℕ) → cond b (Some 0) (next o) ≡ Some i → ((j : ℕ) → o ≡ Some j → j < n) → i < suc n
inside_step true o n i h g = let first : 0 ≡ i = cc in omega arith
inside_step false None n i h g = cc
inside_step false (Some j) n i h g = let further : j + 1 ≡ i = cc in let below : j < n = g j refl in omega arith

pub place_of-inside : {A : Type 0} (p : A → Bool) (xs : List A) (i : ℕ) → place_of p xs ≡ Some i → i < length xs
place_of-inside p [] i h = cc
place_of-inside p (x ∷ xs) i h = inside_step (p x) (place_of p xs) (length xs) i h (λ j e. place_of-inside p xs j e)
