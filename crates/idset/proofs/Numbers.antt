-- Places, digits and the numbers that they write.
use Rattle.std.proofs.Common.{◌≡◌, ◌≢◌, ℕ, suc, zero, ◌+◌, ◌-◌, ◌*◌, ◌^◌, ◌<◌, ◌≤◌, Bool, true, false, cond, not, eqb, ltb, List, [], ◌∷◌, length, get_or, take, refl, ap, ◌∙◌, arith}
use Rattle.std.specs.Prelude.{Option, Some, None, unwrap_or}
use Rattle.std.specs.List.{position_or_len, slice_split, before_first}
use Rattle.std.specs.Char.{digit_value, is_ascii_digit}
use Rattle.std.specs.Str.Parse.{digits_value, digits_value_after, AllDigits}
use Rattle.std.specs.Ordering.{is_lt, nat_cmp, ordering_then}
use Rattle.std.specs.declared.cmp.Ordering.TheVariants.{Less, Equal, Greater}
use Rattle.std.specs.Cmp.Lexicographic.{slice_cmp}
use Rattle.std.proofs.lemmas.Bool.Decides.{nat_tests}
use Rattle.std.proofs.lemmas.List.Sums.{prefix_len-le-length, fails_before_first}
use Rattle.std.proofs.lemmas.List.Splits.{slice_split_none}
use Rattle.std.proofs.lemmas.Int.Digits.{digits_value-lt}
use Rattle.std.proofs.lemmas.Str.Parse.{digit_from_value}
use Rattle.std.proofs.Math.Nat.{pow-suc, pow-le-pow_right, mul-le-mul_left}
use Rattle.idset.specs.Text.{behind_zeros, is_no_digit, number_value}

-- the first place, or the length where `position` finds none
pub place_is : (p : ℕ → Bool) (xs : List ℕ) (r : Option ℕ) → r ≡ cond (ltb (position_or_len p xs) (length xs)) (Some (position_or_len p xs)) None → unwrap_or r (length xs) ≡ position_or_len p xs
place_is p xs r e =
    let most : position_or_len p xs ≤ length xs = prefix_len-le-length (λ x. not (p x)) xs in
    rw e (elim (ltb (position_or_len p xs) (length xs)) as (λ b. ltb (position_or_len p xs) (length xs) ≡ b → unwrap_or (cond b (Some (position_or_len p xs)) None) (length xs) ≡ position_or_len p xs)
    [ true ↦ λ h. refl | false ↦ λ h. grind (arith, nat_tests) ] refl)

pub uncut : (p : ℕ → Bool) (xs : List ℕ) → length xs ≤ position_or_len p xs → slice_split p xs ≡ xs ∷ []
uncut p xs h = slice_split_none p xs (λ k d i. fails_before_first p xs k d (omega arith))

is_digit : (d : ℕ) → is_ascii_digit d ≡ true → digit_value d < 10
is_digit d e = grind (arith, nat_tests)

-- what a digit is
pub digit_is : (d : ℕ) → digit_value d < 10 → (48 ≤ d) × (d ≤ 57) × (digit_value d ≡ d - 48)
digit_is d h =
    let r = digit_from_value d h in
    let low : 48 ≤ d = omega (arith, r.0) in
    let high : d ≤ 57 = omega (arith, r.1) in
    (low, high, grind (arith, nat_tests))

pub all_digits : (ds : List ℕ) → AllDigits 10 (before_first is_no_digit ds)
all_digits [] = tt
all_digits (d ∷ ds) = elim (is_ascii_digit d) as (λ b. is_ascii_digit d ≡ b → AllDigits 10 (take (cond (not (not b)) (1 + position_or_len is_no_digit ds) 0) (d ∷ ds)))
    [ true ↦ λ e. let count : 1 + position_or_len is_no_digit ds ≡ suc (position_or_len is_no_digit ds) = omega arith in rw count (is_digit d e, all_digits ds) | false ↦ λ e. tt ] refl

pub value-behind_zeros : (ds : List ℕ) → number_value (behind_zeros ds) ≡ number_value ds
unfolding number_value
value-behind_zeros [] = refl
value-behind_zeros (d ∷ ds) = elim (eqb d 48) as (λ b. eqb d 48 ≡ b → digits_value 10 (cond b (behind_zeros ds) (d ∷ ds)) ≡ digits_value 10 (d ∷ ds))
    [ true ↦ λ e. let zero_is : d ≡ 48 = grind (arith, nat_tests) in rw zero_is (value-behind_zeros ds) | false ↦ λ e. refl ] refl

pub digits-behind_zeros : (ds : List ℕ) → AllDigits 10 ds → AllDigits 10 (behind_zeros ds)
digits-behind_zeros [] h = tt
digits-behind_zeros (d ∷ ds) h = elim (eqb d 48) as (λ b. AllDigits 10 (cond b (behind_zeros ds) (d ∷ ds))) [ true ↦ digits-behind_zeros ds h.1 | false ↦ h ]

-- the first digit isn't 0
abbrev pub HasLead : List ℕ → Type 0
HasLead [] = Unit {0}
HasLead (d ∷ ds) = 0 < digit_value d

pub lead-behind_zeros : (ds : List ℕ) → AllDigits 10 ds → HasLead (behind_zeros ds)
lead-behind_zeros [] h = tt
lead-behind_zeros (d ∷ ds) h = elim (eqb d 48) as (λ b. eqb d 48 ≡ b → HasLead (cond b (behind_zeros ds) (d ∷ ds)))
    [ true ↦ λ e. lead-behind_zeros ds h.1 | false ↦ λ e. nonzero d h.0 e ] refl
  where
    nonzero : (d : ℕ) → digit_value d < 10 → eqb d 48 ≡ false → 0 < digit_value d
    nonzero d h e =
        let is = digit_is d h in
        let other : d ≢ 48 = grind (arith, nat_tests) in
        omega (arith, is.0, is.2)

after_ge : (n : ℕ) (ds : List ℕ) → n * 10 ^ length ds ≤ digits_value_after 10 n ds
after_ge n [] = omega arith
after_ge n (d ∷ ds) =
    let more : (n * 10 + digit_value d) * 10 ^ length ds ≤ digits_value_after 10 (n * 10 + digit_value d) ds = after_ge (n * 10 + digit_value d) ds in
    let power : 10 ^ suc (length ds) ≡ 10 ^ length ds * 10 = pow-suc 10 (length ds) in
    rw power (least n (digit_value d) (10 ^ length ds) _ more)
  where
    least : (n d p v : ℕ) → (n * 10 + d) * p ≤ v → n * (p * 10) ≤ v
    least n d p v h = omega (arith, mul-le-mul_left p (let k : n * 10 ≤ n * 10 + d = omega arith in k))

pub value_of_longer : (xs ys : List ℕ) → AllDigits 10 xs → HasLead ys → length xs < length ys → digits_value 10 xs < digits_value 10 ys
value_of_longer xs [] a l h = absurd (omega arith)
value_of_longer xs (y ∷ ys) a l h =
    let below : digits_value 10 xs < 10 ^ length xs = digits_value-lt 10 xs a in
    let grows : 10 ^ length xs ≤ 10 ^ length ys = pow-le-pow_right {n = 10} (omega arith) {i = length xs} {j = length ys} (omega arith) in
    let above : (0 * 10 + digit_value y) * 10 ^ length ys ≤ digits_value_after 10 (0 * 10 + digit_value y) ys = after_ge (0 * 10 + digit_value y) ys in
    let more : 10 ^ length ys ≤ digits_value 10 (y ∷ ys) = least (digit_value y) (10 ^ length ys) _ l above in
    omega arith
  where
    least : (d p v : ℕ) → 0 < d → (0 * 10 + d) * p ≤ v → p ≤ v
    least d p v some h = omega (arith, mul-le-mul_left p some)

-- of two texts of one length the first digit that differs decides
apart : (m n : ℕ) (xs ys : List ℕ) → AllDigits 10 xs → m < n → length xs ≡ length ys → digits_value_after 10 m xs < digits_value_after 10 n ys
apart m n [] [] a h e = h
apart m n [] (y ∷ ys) a h e = absurd (omega arith)
apart m n (x ∷ xs) [] a h e = absurd (omega arith)
apart m n (x ∷ xs) (y ∷ ys) a h e = let d = a.0 in apart (m * 10 + digit_value x) (n * 10 + digit_value y) xs ys a.1 (omega arith) (omega arith)

pub digit_of : (ds : List ℕ) (i : ℕ) → AllDigits 10 ds → i < length ds → digit_value (get_or ds i 0) < 10
digit_of [] i a h = absurd (omega arith)
digit_of (d ∷ ds) zero a h = a.0
digit_of (d ∷ ds) (suc i) a h = digit_of ds i a.1 (omega arith)

pub longer_is_not : (xs ys : List ℕ) → AllDigits 10 ys → HasLead xs → length ys < length xs → ltb (digits_value 10 xs) (digits_value 10 ys) ≡ false
longer_is_not xs ys a l h = let below : digits_value 10 ys < digits_value 10 xs = value_of_longer ys xs a l h in grind (arith, nat_tests)

-- of two texts of one length the one that comes first in the order of texts writes the smaller number
pub text_order : (n : ℕ) (xs ys : List ℕ) → AllDigits 10 xs → AllDigits 10 ys → length xs ≡ length ys → is_lt (slice_cmp nat_cmp xs ys) ≡ ltb (digits_value_after 10 n xs) (digits_value_after 10 n ys)
text_order n [] [] a b e = grind (arith, nat_tests)
text_order n [] (y ∷ ys) a b e = absurd (omega arith)
text_order n (x ∷ xs) [] a b e = absurd (omega arith)
text_order n (x ∷ xs) (y ∷ ys) a b e =
    elim (ltb x y) as (λ t. ltb x y ≡ t → is_lt (ordering_then (cond t Less (cond (eqb x y) Equal Greater)) (slice_cmp nat_cmp xs ys)) ≡ ltb (digits_value_after 10 (n * 10 + digit_value x) xs) (digits_value_after 10 (n * 10 + digit_value y) ys)) [
      | true ↦ λ h.
          let before : x < y = grind (arith, nat_tests) in
          let less : digits_value_after 10 (n * 10 + digit_value x) xs < digits_value_after 10 (n * 10 + digit_value y) ys = apart (n * 10 + digit_value x) (n * 10 + digit_value y) xs ys a.1 (further n x y a.0 b.0 before) (omega arith) in
          grind (arith, nat_tests)
      | false ↦ λ h. elim (eqb x y) as (λ t. eqb x y ≡ t → is_lt (ordering_then (cond t Equal Greater) (slice_cmp nat_cmp xs ys)) ≡ ltb (digits_value_after 10 (n * 10 + digit_value x) xs) (digits_value_after 10 (n * 10 + digit_value y) ys)) [
        | true ↦ λ i. let same : x ≡ y = grind (arith, nat_tests) in text_order (n * 10 + digit_value x) xs ys a.1 b.1 (omega arith) ∙ ap (λ z. ltb (digits_value_after 10 (n * 10 + digit_value x) xs) (digits_value_after 10 (n * 10 + digit_value z) ys)) same
        | false ↦ λ i.
            let behind : y < x = grind (arith, nat_tests) in
            let more : digits_value_after 10 (n * 10 + digit_value y) ys < digits_value_after 10 (n * 10 + digit_value x) xs = apart (n * 10 + digit_value y) (n * 10 + digit_value x) ys xs b.1 (further n y x b.0 a.0 behind) (omega arith) in
            grind (arith, nat_tests)
      ] refl
    ] refl
  where
    further : (n x y : ℕ) → digit_value x < 10 → digit_value y < 10 → x < y → n * 10 + digit_value x < n * 10 + digit_value y
    further n x y a b h =
        let p = digit_is x a in
        let q = digit_is y b in
        omega (arith, p.0, p.2, q.0, q.2)
