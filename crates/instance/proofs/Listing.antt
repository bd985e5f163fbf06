-- On lists that grow at their end.
use Rattle.std.proofs.Common.{◌≡◌, ◌≢◌, zero, suc, set, Some, ℕ, ◌+◌, ◌<◌, List, [], ◌∷◌, ◌++◌, length, Bool, true, false, ◌||◌, cond, refl, sym, ap, ◌∙◌, subst, arith, count_by, true≢false}
use Rattle.std.specs.Prelude.{slice_get}
use Rattle.std.specs.List.{list_any}
use Rattle.std.proofs.lemmas.Option.{slice_get_within, slice_get-get_or}
use Rattle.std.proofs.lemmas.List.{get_or-set_same}
use Rattle.std.proofs.Math.ListN.{length-set}
use Rattle.std.specs.List.{AllByRecursion as Each}
use Rattle.std.proofs.lemmas.List.Folds.{list_any-append}
use Rattle.std.proofs.lemmas.List.Sums.{sum_by-append}

pub count-append : {A : Type 0} (p : A → Bool) (xs ys : List A) → count_by p (xs ++ ys) ≡ count_by p xs + count_by p ys
count-append p xs ys = sum_by-append (λ x. cond (p x) 1 0) xs ys

pub count-push : {A : Type 0} (p : A → Bool) (xs : List A) (y : A) → count_by p (xs ++ y ∷ []) ≡ count_by p xs + cond (p y) 1 0
count-push p xs y = count-append p xs (y ∷ []) ∙ ap (λ n. count_by p xs + n) (zero_first (cond (p y) 1 0))
  where
    zero_first : (n : ℕ) → 0 + n ≡ n
    zero_first n = omega arith

or_left : (a b : Bool) → a ≡ true → (a || b) ≡ true
or_left true b h = refl
or_left false b h = absurd (true≢false (sym h))

pub any_left : {A : Type 0} (p : A → Bool) (xs ys : List A) → list_any p xs ≡ true → list_any p (xs ++ ys) ≡ true
any_left p xs ys h = list_any-append p xs ys ∙ or_left (list_any p xs) (list_any p ys) h

pub any_counted : {A : Type 0} (p : A → Bool) (xs : List A) → 0 < count_by p xs → list_any p xs ≡ true
any_counted p [] h = absurd (omega arith)
any_counted p (x ∷ xs) h = by (p x) (any_counted p xs) (subst (λ n. 0 < n) (count-append p (x ∷ []) xs) h)
  where
    by : (b : Bool) → (0 < count_by p xs → list_any p xs ≡ true) → 0 < (0 + cond b 1 0) + count_by p xs → (b || list_any p xs) ≡ true
    by true again h = refl
    by false again h = again (omega arith)

pub none_counted : {A : Type 0} (p : A → Bool) (xs : List A) → count_by p xs ≡ 0 → list_any p xs ≡ false
none_counted p [] e = refl
none_counted p (x ∷ xs) e = by (p x) (none_counted p xs) (sym (count-append p (x ∷ []) xs) ∙ e)
  where
    by : (b : Bool) → (count_by p xs ≡ 0 → list_any p xs ≡ false) → (0 + cond b 1 0) + count_by p xs ≡ 0 → (b || list_any p xs) ≡ false
    by true again h = absurd (omega arith)
    by false again h = again (omega arith)

pub each_append : {A : Type 0} (P : A → Type 0) (xs ys : List A) → Each P xs → Each P ys → Each P (xs ++ ys)
each_append P [] ys h g = g
each_append P (x ∷ xs) ys h g = (h.0, each_append P xs ys h.1 g)

pub each_weaker : {A : Type 0} (P Q : A → Type 0) → ((x : A) → P x → Q x) → (xs : List A) → Each P xs → Each Q xs
each_weaker P Q f [] h = tt
each_weaker P Q f (x ∷ xs) h = (f x h.0, each_weaker P Q f xs h.1)

-- a list with one element set
pub get-set_same : {A : Type 0} (xs : List A) (i : ℕ) (x y : A) → slice_get xs i ≡ Some x → slice_get (set xs i y) i ≡ Some y
get-set_same xs i x y e =
    let within : i < length xs = slice_get_within xs i x e in
    slice_get-get_or (set xs i y) i y (subst (λ n. i < n) (sym (length-set xs i y)) within) ∙ ap Some (get_or-set_same xs i y y within)

pub get-set_other : {A : Type 0} (xs : List A) (i j : ℕ) (y : A) → j ≢ i → slice_get (set xs i y) j ≡ slice_get xs j
get-set_other [] i j y other = refl
get-set_other (x ∷ xs) zero zero y other = absurd (other refl)
get-set_other (x ∷ xs) zero (suc j) y other = refl
get-set_other (x ∷ xs) (suc i) zero y other = refl
get-set_other (x ∷ xs) (suc i) (suc j) y other = get-set_other xs i j y (λ e. other (ap suc e))
