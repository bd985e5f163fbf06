-- What a text begins with, where bytes of one kind stand before others.
use Rattle.std.proofs.Common.{◌≡◌, ℕ, ◌+◌, suc, Bool, true, false, cond, List, [], ◌∷◌, ◌++◌, length, take, drop, refl, ap, ◌∙◌, arith}
use Rattle.std.specs.List.{list_all, prefix_len, take_while}
use Rattle.std.proofs.lemmas.List.{take_at, drop_at}
use Rattle.hostlist.proofs.NameLemmas.{and_left, and_right}

-- the first element, if there is one, fails
abbrev pub Stops : (ℕ → Bool) → List ℕ → Type 0
Stops p [] = Unit {0}
Stops p (y ∷ ys) = p y ≡ false

pub front_len : (p : ℕ → Bool) (xs ys : List ℕ) → list_all p xs ≡ true → Stops p ys → prefix_len p (xs ++ ys) ≡ length xs
front_len p [] [] h s = refl
front_len p [] (y ∷ ys) h s = ap (λ b. cond b (1 + prefix_len p ys) 0) s
front_len p (x ∷ xs) ys h s =
    let more = front_len p xs ys (and_right (p x) (list_all p xs) h) s in
    let step : 1 + prefix_len p (xs ++ ys) ≡ suc (length xs) = omega (arith, more) in
    ap (λ b. cond b (1 + prefix_len p (xs ++ ys)) 0) (and_left (p x) (list_all p xs) h) ∙ step

pub front_is : (p : ℕ → Bool) (xs ys : List ℕ) → list_all p xs ≡ true → Stops p ys → take_while p (xs ++ ys) ≡ xs
front_is p xs ys h s = ap (λ n. take n (xs ++ ys)) (front_len p xs ys h s) ∙ take_at xs ys (length xs) refl

pub back_is : (p : ℕ → Bool) (xs ys : List ℕ) → list_all p xs ≡ true → Stops p ys → drop (prefix_len p (xs ++ ys)) (xs ++ ys) ≡ ys
back_is p xs ys h s = ap (λ n. drop n (xs ++ ys)) (front_len p xs ys h s) ∙ drop_at xs ys (length xs) refl
