-- Searches up to a place, and lists that grow by one.
use Rattle.std.proofs.Common.{◌≡◌, ℕ, suc, zero, ◌+◌, ◌<◌, Bool, true, false, cond, List, [], ◌∷◌, length, get_or, take, Option, Some, None, Result, Ok, Err, refl, ap, subst, arith}
use Rattle.std.specs.Prelude.{find}
use Rattle.std.specs.Result.{is_err, is_ok}
use Rattle.std.specs.List.{AllByRecursion as Each}

module _ {A : Type 0} where
  -- the first that passes stands at this place, or none passes up to the next
  first_case : (p : A → Bool) (y : A) (ys : List A) (rest : Option A) (x : A) → (b : Bool) → p y ≡ b → cond b (Some y) rest ≡ None → (rest ≡ None → find p ys ≡ Some x) → cond b (Some y) (find p ys) ≡ Some x
  first_case p y ys rest x true f m more = cc
  first_case p y ys rest x false f m more = more m

  pub find_at : (p : A → Bool) (xs : List A) (i : ℕ) (d : A) → find p (take i xs) ≡ None → i < length xs → p (get_or xs i d) ≡ true → find p xs ≡ Some (get_or xs i d)
  find_at p [] i d n w t = let no : ⊥ = omega (arith, w) in absurd no
  find_at p (y ∷ ys) zero d n w t = ap (λ b. cond b (Some y) (find p ys)) t
  find_at p (y ∷ ys) (suc i) d n w t = first_case p y ys (find p (take i ys)) (get_or ys i d) (p y) refl n (λ m. find_at p ys i d m (omega (arith, w)) t)

  none_case : (y : A) (rest more : Option A) (b : Bool) → cond b (Some y) rest ≡ None → (rest ≡ None → more ≡ None) → cond b (Some y) more ≡ None
  none_case y rest more true m f = cc
  none_case y rest more false m f = f m

  none_up : (p : A → Bool) (xs : List A) (i : ℕ) (d : A) → find p (take i xs) ≡ None → i < length xs → p (get_or xs i d) ≡ false → find p (take (suc i) xs) ≡ None
  none_up p [] i d n w t = refl
  none_up p (y ∷ ys) zero d n w t = ap (λ b. cond b (Some y) None) t
  none_up p (y ∷ ys) (suc i) d n w t = none_case y (find p (take i ys)) (find p (take (suc i) ys)) (p y) n (λ m. none_up p ys i d m (omega (arith, w)) t)

  pub none_at : (p : A → Bool) (xs : List A) (i : ℕ) (d : A) → find p (take i xs) ≡ None → i < length xs → p (get_or xs i d) ≡ false → find p (take (i + 1) xs) ≡ None
  none_at p xs i d n w t = let e : suc i ≡ i + 1 = omega arith in subst (λ k. find p (take k xs) ≡ None) e (none_up p xs i d n w t)

  each_up : (P : A → Type 0) (xs : List A) (i : ℕ) (x : A) → Each P (take i xs) → i < length xs → x ≡ get_or xs i x → P x → Each P (take (suc i) xs)
  each_up P [] i x h w e p = tt
  each_up P (y ∷ ys) zero x h w e p = (subst P e p, tt)
  each_up P (y ∷ ys) (suc i) x h w e p = (h.0, each_up P ys i x h.1 (omega (arith, w)) e p)

  pub each_next : (P : A → Type 0) (xs : List A) (i : ℕ) (x : A) → Each P (take i xs) → i < length xs → x ≡ get_or xs i x → P x → Each P (take (i + 1) xs)
  each_next P xs i x h w e p = let n : suc i ≡ i + 1 = omega arith in subst (λ k. Each P (take k xs)) n (each_up P xs i x h w e p)

module _ {A : Type 0} (P : A → Type 0) where
  each_beyond : (xs : List A) (i : ℕ) → Each P (take i xs) → i < length xs → ((d : A) → P (get_or xs i d)) → Each P (take (suc i) xs)
  each_beyond [] i h w f = tt
  each_beyond (y ∷ ys) zero h w f = (f y, tt)
  each_beyond (y ∷ ys) (suc i) h w f = (h.0, each_beyond ys i h.1 (omega (arith, w)) f)

  -- the one at the place too, whatever stands for one that isn't there
  pub each_past : (xs : List A) (i : ℕ) → Each P (take i xs) → i < length xs → ((d : A) → P (get_or xs i d)) → Each P (take (i + 1) xs)
  each_past xs i h w f = let n : suc i ≡ i + 1 = omega arith in subst (λ k. Each P (take k xs)) n (each_beyond xs i h w f)

pub none_of : {A : Type 0} (o : Option A) → ((x : A) → o ≡ Some x → ⊥) → o ≡ None
none_of None f = refl
none_of (Some x) f = absurd (f x refl)

pub is_ok_then : {A E : Type 0} (r : Result A E) → is_err r ≡ false → is_ok r ≡ true
is_ok_then (Ok x) h = refl
is_ok_then (Err x) h = absurd (cc)
