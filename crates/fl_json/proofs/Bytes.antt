-- The bytes of number tokens.
use Rattle.std.proofs.Common.{◌≡◌, ℕ, suc, ◌+◌, ◌<◌, ◌≤◌, Bool, true, false, ◌&&◌, ◌||◌, ◌==◌, cond, List, [], ◌∷◌, ◌++◌, length, take, drop, Option, Some, None, option_and_then, inl, inr, ◌⊎◌, refl, sym, ap, ◌∙◌, arith, append_assoc, append-nil, lit≤}
use Rattle.std.specs.Prelude.{not, nat_lt, ◌^◌, ⊤}
use Rattle.std.specs.Char.{is_ascii_digit}
use Rattle.std.specs.List.{list_all, prefix_len}
use Rattle.std.specs.Str.{IsAscii, IsUtf8, all_ascii_digits}
use Rattle.std.proofs.lemmas.Bool.{false≢true, eqb-true, and_parts, or_cases, cases_Bool}
use Rattle.std.proofs.lemmas.Bool.Decides.{nat_tests}
use Rattle.std.proofs.lemmas.List.{take-append-drop}
use Rattle.std.proofs.lemmas.Str.{IsUtf8-from_ascii}
use Rattle.json.specs.Word.{head, after_digits, after_minus, after_sign, after_whole, after_fraction, after_exponent, after_number}
use Rattle.fl_json.specs.Numbers.{continues_number, is_number}

-- each byte may stand in a number token
abbrev pub AreOfNumber : List ℕ → Type 0
AreOfNumber t = list_all continues_number t ≡ true

digit_continues : (b : ℕ) → is_ascii_digit b ≡ true → continues_number b ≡ true
digit_continues b h = ap (λ d. d || b == 43 || b == 45 || b == 46 || b == 101 || b == 69) h

-- what is left is behind bytes of number tokens
abbrev pub Behind : List ℕ → Option (List ℕ) → Type 0
Behind t None = ⊤
Behind t (Some rest) = (front : List ℕ) × (t ≡ front ++ rest) × AreOfNumber front

behind_none : (t : List ℕ) → Behind t (Some t)
behind_none t = ([], refl, refl)

behind_one : (c : ℕ) (t : List ℕ) → continues_number c ≡ true → (c ≡ 32 → ⊥) → (head t == c) ≡ true → Behind t (Some (drop 1 t))
behind_one c [] passes other e = absurd (other (sym (eqb-true 32 c e)))
behind_one c (x ∷ xs) passes other e = (x ∷ [], refl, ap (λ y. continues_number y && true) (eqb-true x c e) ∙ ap (λ d. d && true) passes)

behind_test : (b : Bool) (t : List ℕ) (x y : Option (List ℕ)) → (b ≡ true → Behind t x) → Behind t y → Behind t (cond b x y)
behind_test true t x y f g = f refl
behind_test false t x y f g = g

append_passes : (a b : List ℕ) → AreOfNumber a → AreOfNumber b → AreOfNumber (a ++ b)
append_passes [] b p q = q
append_passes (x ∷ a) b p q = let both = and_parts (continues_number x) (list_all continues_number a) p in ap (λ d. d && list_all continues_number (a ++ b)) both.0 ∙ append_passes a b both.1 q

-- one part after another
behind_then : (t : List ℕ) (o : Option (List ℕ)) (f : List ℕ → Option (List ℕ)) → Behind t o → ((u : List ℕ) → Behind u (f u)) → Behind t (option_and_then f o)
behind_then t None f h g = tt
behind_then t (Some u) f h g = joined (f u) (g u)
  where
    joined : (p : Option (List ℕ)) → Behind u p → Behind t p
    joined None k = tt
    joined (Some r) k = (h.0 ++ k.0, h.1 ∙ ap (λ l. h.0 ++ l) k.1 ∙ sym (append_assoc h.0 k.0 r), append_passes h.0 k.0 h.2 k.2)

run_passes : (p : ℕ → Bool) → ((b : ℕ) → p b ≡ true → continues_number b ≡ true) → (t : List ℕ) → AreOfNumber (take (prefix_len p t) t)
run_passes p f [] = refl
run_passes p f (x ∷ xs) = go (run_passes p f xs) (p x) refl
  where
    longer : 1 + prefix_len p xs ≡ suc (prefix_len p xs)
    longer = omega arith

    go : AreOfNumber (take (prefix_len p xs) xs) → (b : Bool) → p x ≡ b → AreOfNumber (take (cond b (1 + prefix_len p xs) 0) (x ∷ xs))
    go more false e = refl
    go more true e = ap (λ k. list_all continues_number (take k (x ∷ xs))) longer ∙ ap (λ d. d && list_all continues_number (take (prefix_len p xs) xs)) (f x e) ∙ more

-- a run of bytes of number tokens has such bytes alone
pub token_run : (t : List ℕ) → AreOfNumber (take (prefix_len continues_number t) t)
token_run t = run_passes continues_number (λ b h. h) t

behind_digits : (t : List ℕ) → Behind t (after_digits t)
behind_digits t = behind_test (prefix_len is_ascii_digit t == 0) t None _ (λ e. tt)
    (take (prefix_len is_ascii_digit t) t, sym (take-append-drop (prefix_len is_ascii_digit t) t), run_passes is_ascii_digit digit_continues t)

no_space : (c : ℕ) → 33 ≤ c → c ≡ 32 → ⊥
no_space c h e = omega arith

behind_sign : (t : List ℕ) → Behind t (Some (after_sign t))
behind_sign t = go ((head t == 45) || (head t == 43)) (λ e. either (or_cases _ _ e))
  where
    either : ((head t == 45) ≡ true) ⊎ ((head t == 43) ≡ true) → Behind t (Some (drop 1 t))
    either (inl e) = behind_one 45 t refl (no_space 45 (lit≤ tt)) e
    either (inr e) = behind_one 43 t refl (no_space 43 (lit≤ tt)) e

    go : (b : Bool) → (b ≡ true → Behind t (Some (drop 1 t))) → Behind t (Some (cond b (drop 1 t) t))
    go true f = f refl
    go false f = behind_none t

behind_minus : (t : List ℕ) → Behind t (Some (after_minus t))
behind_minus t = go (head t == 45) refl
  where
    go : (b : Bool) → (head t == 45) ≡ b → Behind t (Some (cond b (drop 1 t) t))
    go true e = behind_one 45 t refl (no_space 45 (lit≤ tt)) e
    go false e = behind_none t

behind_exponent : (t : List ℕ) → Behind t (after_exponent t)
behind_exponent t = behind_test ((head t == 101) || (head t == 69)) t _ (Some t) (λ e. marked (or_cases _ _ e)) (behind_none t)
  where
    digits_of : Behind t (Some (drop 1 t)) → Behind t (after_digits (after_sign (drop 1 t)))
    digits_of h = behind_then t (Some (after_sign (drop 1 t))) after_digits (behind_then t (Some (drop 1 t)) (λ u. Some (after_sign u)) h behind_sign) behind_digits

    marked : ((head t == 101) ≡ true) ⊎ ((head t == 69) ≡ true) → Behind t (after_digits (after_sign (drop 1 t)))
    marked (inl e) = digits_of (behind_one 101 t refl (no_space 101 (lit≤ tt)) e)
    marked (inr e) = digits_of (behind_one 69 t refl (no_space 69 (lit≤ tt)) e)

behind_fraction : (t : List ℕ) → Behind t (after_fraction t)
behind_fraction t = behind_test (head t == 46) t _ (Some t) (λ e. behind_then t (Some (drop 1 t)) after_digits (behind_one 46 t refl (no_space 46 (lit≤ tt)) e) behind_digits) (behind_none t)

behind_whole : (t : List ℕ) → Behind t (after_whole t)
behind_whole t = behind_test (head t == 48) t (Some (drop 1 t)) _ (λ e. behind_one 48 t refl (no_space 48 (lit≤ tt)) e) (behind_digits t)

-- what follows a number is behind bytes of number tokens
pub behind_number : (t : List ℕ) → Behind t (after_number t)
unfolding after_number
behind_number t = behind_then t _ after_exponent (behind_then t _ after_fraction (behind_then t (Some (after_minus t)) after_whole (behind_minus t) behind_whole) behind_fraction) behind_exponent

nothing_left : (n : ℕ) (r : List ℕ) → (length r == 0) ≡ true → r ≡ []
nothing_left n [] h = refl
nothing_left n (x ∷ r) h = absurd (omega (arith, eqb-true (suc (length r)) 0 h))

-- a test of a number is that nothing is left behind it
pub number_rest : (t : List ℕ) → is_number t ≡ true → after_number t ≡ Some []
number_rest t h = go (after_number t) refl h
  where
    go : (o : Option (List ℕ)) → after_number t ≡ o → Rattle.std.specs.Option.option_map_or (λ rest. length rest == 0) o false ≡ true → o ≡ Some []
    go None e h = absurd (false≢true h)
    go (Some r) e h = ap Some (nothing_left 0 r h)

pub is_number-from_rest : (t : List ℕ) → after_number t ≡ Some [] → is_number t ≡ true
is_number-from_rest t e = rw e refl

-- a JSON number has bytes of number tokens alone
pub number_bytes : (t : List ℕ) → is_number t ≡ true → AreOfNumber t
number_bytes t h = ends (after_number t) (behind_number t) (number_rest t h)
  where
    ends : (o : Option (List ℕ)) → Behind t o → o ≡ Some [] → AreOfNumber t
    ends None k e = cc
    ends (Some []) k e = let same : t ≡ k.0 = k.1 ∙ append-nil k.0 in ap (list_all continues_number) same ∙ k.2
    ends (Some (x ∷ r)) k e = cc

small : (b : ℕ) → continues_number b ≡ true → b < 128
small b h = grind (arith, nat_tests)

pub of_number_is_ascii : (t : List ℕ) → AreOfNumber t → IsAscii t
of_number_is_ascii [] h i = omega arith
of_number_is_ascii (x ∷ xs) h Prim.Native.Nat.zero = small x (and_parts _ _ h).0
of_number_is_ascii (x ∷ xs) h (suc i) = of_number_is_ascii xs (and_parts _ _ h).1 i

digits_of_number : (t : List ℕ) → all_ascii_digits t ≡ true → AreOfNumber t
digits_of_number [] h = refl
digits_of_number (x ∷ xs) h = let both = and_parts (is_ascii_digit x) (all_ascii_digits xs) h in ap (λ d. d && list_all continues_number xs) (digit_continues x both.0) ∙ digits_of_number xs both.1

-- what isn't UTF-8 is no number
pub no_number : (t : List ℕ) → ¬ (IsUtf8 t) → is_number t ≡ false
no_number t h = elim (cases_Bool (is_number t)) [ inl is ↦ absurd (h (IsUtf8-from_ascii t (of_number_is_ascii t (number_bytes t is)))) | inr is ↦ is ]

pub no_digits : (t : List ℕ) → ¬ (IsUtf8 t) → all_ascii_digits t ≡ false
no_digits t h = elim (cases_Bool (all_ascii_digits t)) [ inl is ↦ absurd (h (IsUtf8-from_ascii t (of_number_is_ascii t (digits_of_number t is)))) | inr is ↦ is ]

pub no_test : (n v : ℕ) (d : Bool) → d ≡ false → cond (not (n == 0) && d && nat_lt v (2 ^ 64)) (Some v) None ≡ None
no_test n v d h = rw h (go (n == 0))
  where
    go : (z : Bool) → cond (not z && false && nat_lt v (2 ^ 64)) (Some v) None ≡ None
    go true = refl
    go false = refl
