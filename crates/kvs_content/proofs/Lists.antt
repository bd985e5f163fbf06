-- On lists: an element that passes, and its place.
use Rattle.std.proofs.Common.{◌≡◌, ℕ, zero, suc, ◌<◌, List, [], ◌∷◌, ◌++◌, length, Bool, true, false, ◌||◌, ◌&&◌, ◌==◌, not, refl, sym, ap, ◌∙◌, subst, arith, true≢false, get_or, eqb→eq, T}
use Rattle.std.specs.Borrow.{Bor}
use Rattle.std.specs.Prelude.{Option, Some, None, IsTrue, ◌↔◌, ◌≢◌, is_some, option_copied}
use Rattle.std.specs.List.{AllByRecursion as Each, list_any}
use Rattle.std.specs.Cmp.Lexicographic.{other_text, same_text}
use Rattle.std.proofs.lemmas.Bool.Decides.{nat_tests}
use Rattle.kvs_content.specs.Messages.{same_bytes}

-- a place at which an element passes
pub record PassesAt {X : Type 0} (p : X → Bool) (xs : List X) : Type 0 where
  pub place : ℕ
  pub within : place < length xs
  pub passes : (d : X) → p (get_or xs place d) ≡ true

pub passes-at : {X : Type 0} (p : X → Bool) (xs : List X) → list_any p xs ≡ true → PassesAt p xs
passes-at p [] h = absurd (true≢false (sym h))
passes-at p (x ∷ xs) h = by (λ g. passes-at p xs g) (p x) refl h
  where
    by : (list_any p xs ≡ true → PassesAt p xs) → (b : Bool) → p x ≡ b → (b || list_any p xs) ≡ true → PassesAt p (x ∷ xs)
    by behind true e g = record { place = zero; within = omega arith; passes = λ d. e }
    by behind false e g =
        let rest = behind g in
        record { place = suc rest.place; within = let l = rest.within in omega arith; passes = rest.passes }

pub either-left : (a b : Bool) → a ≡ true → (a || b) ≡ true
either-left true b h = refl
either-left false b h = absurd (true≢false (sym h))

pub either-right : (a b : Bool) → b ≡ true → (a || b) ≡ true
either-right true b h = refl
either-right false b h = h

pub or-nothing : (a : Bool) → (a || false) ≡ a
or-nothing true = refl
or-nothing false = refl

pub and-left : (a b : Bool) → (a && b) ≡ true → a ≡ true
and-left true b h = refl
and-left false b h = h

pub and-right : (a b : Bool) → (a && b) ≡ true → b ≡ true
and-right true b h = h
and-right false b h = absurd (true≢false (sym h))

pub same-number : (x y : ℕ) → (x == y) ≡ true → x ≡ y
same-number x y e = eqb→eq x y (subst T (sym e) tt)

-- one more at the end
pub each-push : {X : Type 0} (P : X → Type 0) (xs : List X) (x : X) → Each P xs → P x → Each P (xs ++ x ∷ [])
each-push P [] x all here = (here, tt)
each-push P (y ∷ ys) x all here = (all.0, each-push P ys x all.1 here)

pub equal-itself : (x : ℕ) → (x == x) ≡ true
equal-itself x = grind (arith, nat_tests)

-- what a test of two contents tells
pub bytes-same : (xs ys : List ℕ) → same_bytes xs ys ≡ true → xs ≡ ys
bytes-same xs ys e = same_text xs ys (sym e)

pub other-bytes : (xs ys : List ℕ) → same_bytes xs ys ≡ false → xs ≢ ys
other-bytes xs ys e = other_text xs ys (sym e)

pub bytes-themselves : (xs : List ℕ) → same_bytes xs xs ≡ true
bytes-themselves xs = by (same_bytes xs xs) refl
  where
    by : (b : Bool) → same_bytes xs xs ≡ b → same_bytes xs xs ≡ true
    by true e = e
    by false e = absurd (other-bytes xs xs e refl)

-- what is lent is there where what it is lent of is
pub some-copied : {X : Type 0} (o : Option (Bor X)) → is_some (option_copied o) ≡ is_some o
some-copied (Some x) = refl
some-copied None = refl

-- a list that isn't told to have something is empty
pub none-of-test : {X : Type 0} (xs : List X) (b : Bool) → (IsTrue b ↔ (xs ≢ [])) → b ≡ false → xs ≡ []
none-of-test [] b h e = refl
none-of-test (x ∷ xs) b h e = absurd (true≢false (sym (h.1 (λ same. let no : ⊥ = cc in no)) ∙ e))

pub none-iff : {X : Type 0} (xs : List X) (b : Bool) → (IsTrue b ↔ (xs ≢ [])) → (IsTrue (not b) ↔ (xs ≡ []))
none-iff xs true h = (λ e. absurd (true≢false (sym e)), λ e. absurd (h.0 refl e))
none-iff xs false h = (λ e. none-of-test xs false h refl, λ e. refl)

pub flip : (b s : Bool) → s ≡ not b → b ≡ not s
flip true s e = ap not (sym e)
flip false s e = ap not (sym e)

pub none-of-length : {X : Type 0} (xs : List X) → length xs ≡ 0 → xs ≡ []
none-of-length [] h = refl
none-of-length (x ∷ xs) h = absurd (omega arith)

pub none-of-some : {X : Type 0} (o : Option X) → is_some o ≡ false → o ≡ None
none-of-some None h = refl
none-of-some (Some x) h = absurd (true≢false h)
