-- Numbers in decimal digits, and their padded forms.
use Rattle.std.proofs.Common.{◌≡◌, ℕ, ◌+◌, ◌-◌, ◌*◌, ◌/◌, ◌%◌, ◌^◌, ◌<◌, ◌≤◌, true, min, List, [], ◌∷◌, ◌++◌, length, take, drop, replicate, reverse, ◌&&◌, set, get_or, refl, ap, ap₂, sym, ◌∙◌, lit<, lit≤, arith}
use Rattle.std.specs.Str.{all_ascii_digits}
use Rattle.std.specs.Str.Parse.{digits_value}
use Rattle.std.specs.Char.{digit_value}
use Rattle.std.specs.Fmt.{decimal}
use Rattle.std.proofs.lemmas.Bool.Decides.{nat_tests}
use Rattle.std.proofs.lemmas.Str.Parse.{IsNumeralModel, numerals_by_value, tells_all_ascii_digits, digit_at, digits_value-take-le, digits_value_short}
use Rattle.std.proofs.lemmas.Int.Digits.{digits_value_more}
use Rattle.std.proofs.lemmas.List.{take-append-drop, drop-append-le, drop-replicate, length-drop, length-replicate, append-nil, append_assoc, length_push, length-set, take-set, take-take, take-replicate, drop-set}
use Rattle.std.proofs.lemmas.Fmt.{length-decimal-le, decimal_nonempty, decimal_step, decimal_digit}
use Rattle.std.specs.List.{list_all}
use Rattle.std.specs.Char.{is_ascii_digit}
use Rattle.std.proofs.lemmas.List.{get_or-reverse, get_or-drop}
use Rattle.std.proofs.lemmas.List.Sums.{suffix_len-le-length, prefix_len_passes, list_all-from_AllPass}
use Rattle.std.proofs.lemmas.List.Elements.{All-from_get_or}
use Rattle.hostlist.specs.Names.{padded, digits_len, number_digits}

pub own : IsNumeralModel (λ ds. all_ascii_digits ds ≡ true) (digits_value 10)
own = numerals_by_value _ tells_all_ascii_digits

-- what at most nine digits write is small
pub value_small : (ds : List ℕ) → all_ascii_digits ds ≡ true → length ds ≤ 9 → digits_value 10 ds < 1000000000
value_small ds h short = digits_value_short own ds 9 h short

digit_value_is : (c : ℕ) → 48 ≤ c → c ≤ 57 → digit_value c ≡ c - 48
digit_value_is c low high = grind (arith, nat_tests)

-- one digit more
pub record OneMore (ds : List ℕ) (i : ℕ) : Type 0 where
  pub low : 48 ≤ get_or ds i 0
  pub high : get_or ds i 0 ≤ 57
  pub value : digits_value 10 (take (i + 1) ds) ≡ digits_value 10 (take i ds) * 10 + (get_or ds i 0 - 48)
  pub within : digits_value 10 (take (i + 1) ds) ≤ digits_value 10 ds

pub one_more : (ds : List ℕ) (i : ℕ) → all_ascii_digits ds ≡ true → i < length ds → OneMore ds i
one_more ds i h l = let d = digit_at ds i (own.to ds h) l in record {
  low = d.0;
  high = omega (arith, d.1);
  value = digits_value_more 10 ds i l ∙ ap (λ v. digits_value 10 (take i ds) * 10 + v) (digit_value_is (get_or ds i 0) d.0 (omega (arith, d.1)));
  within = digits_value-take-le 10 ds (i + 1) (lit≤ tt);
}

-- digits at the end of ten zeros
pub padded_is : (bytes : List ℕ) (at number width : ℕ) → length bytes ≡ 10 → at < 10 → width ≤ 10 → take at bytes ≡ replicate at 48 → drop at bytes ≡ decimal number → drop (min at (10 - width)) bytes ≡ padded width number
unfolding padded
padded_is bytes at number width ten inside narrow zeros digits =
    let whole : bytes ≡ replicate at 48 ++ decimal number = sym (take-append-drop at bytes) ∙ ap₂ (λ x y. x ++ y) zeros digits in
    let long : length (decimal number) ≡ 10 - at = sym (ap length digits) ∙ length-drop at bytes ∙ ap (λ n. n - at) ten in
    let some : length (replicate {A = ℕ} at 48) ≡ at = length-replicate at 48 in
    let fits : min at (10 - width) ≤ length (replicate {A = ℕ} at 48) = omega arith in
    let count : at - min at (10 - width) ≡ width - length (decimal number) = omega arith in
    ap (drop (min at (10 - width))) whole ∙ drop-append-le (min at (10 - width)) (replicate at 48) (decimal number) fits
    ∙ ap (λ x. x ++ decimal number) (drop-replicate (min at (10 - width)) at 48)
    ∙ ap (λ n. replicate n 48 ++ decimal number) count

-- what stands in the digits of a number as long as it has ten or more
pub record Digits (bytes : List ℕ) (at rest number : ℕ) : Type 0 where
  pub inside : at < 10
  pub ten : length bytes ≡ 10
  pub small : rest < 2 ^ 32
  pub fits : length (decimal rest) ≤ at + 1
  pub zeros : take (at + 1) bytes ≡ replicate (at + 1) 48
  pub digits : decimal rest ++ drop (at + 1) bytes ≡ decimal number

pub digits_begin : (number : ℕ) → number < 2 ^ 32 → Digits (replicate 10 48) 9 number number
digits_begin number small = record {
  inside = lit< tt;
  ten = refl;
  small = small;
  fits = length-decimal-le 10 number (lit< tt) (omega arith) (omega arith);
  zeros = refl;
  digits = append-nil (decimal number);
}

-- there is room for one digit more
pub digits_room : (bytes : List ℕ) (at rest number : ℕ) → Digits bytes at rest number → 10 ≤ rest → 1 ≤ at
digits_room bytes at rest number d big =
    let some : 0 < length (decimal (rest / 10)) = decimal_nonempty (rest / 10) (omega (arith, d.small)) in
    let long : length (decimal rest) ≡ length (decimal (rest / 10)) + 1 = ap length (decimal_step rest big (omega (arith, d.small))) ∙ length_push (decimal (rest / 10)) (48 + rest % 10) in
    omega (arith, d.fits)

pub digits_more : (bytes : List ℕ) (at rest number : ℕ) → Digits bytes at rest number → 10 ≤ rest → Digits (set bytes at (48 + rest % 10)) (at - 1) (rest / 10) number
digits_more bytes at rest number d big =
    let room = digits_room bytes at rest number d big in
    let back : at - 1 + 1 ≡ at = omega (arith, room) in
    let step = decimal_step rest big (omega (arith, d.small)) in
    let long : length (decimal rest) ≡ length (decimal (rest / 10)) + 1 = ap length step ∙ length_push (decimal (rest / 10)) (48 + rest % 10) in
    record {
      inside = omega (arith, d.inside);
      ten = length-set bytes at (48 + rest % 10) ∙ d.ten;
      small = omega (arith, d.small);
      fits = omega (arith, d.fits, long, back);
      zeros = rw back (take-set bytes at (48 + rest % 10) ∙ sym (take-take at (at + 1) bytes (omega arith)) ∙ ap (take at) d.zeros ∙ take-replicate at (at + 1) 48 (omega arith));
      digits = rw back (ap (λ x. decimal (rest / 10) ++ x) (drop-set bytes at (48 + rest % 10) (omega (arith, d.inside, d.ten)))
          ∙ sym (append_assoc (decimal (rest / 10)) ((48 + rest % 10) ∷ []) (drop (at + 1) bytes)) ∙ ap (λ x. x ++ drop (at + 1) bytes) (sym step) ∙ d.digits);
    }

pub digits_end : (bytes : List ℕ) (at rest number width : ℕ) → Digits bytes at rest number → rest < 10 → width ≤ 10 → drop (min at (10 - width)) (set bytes at (48 + rest)) ≡ padded width number
digits_end bytes at rest number width d last narrow =
    padded_is (set bytes at (48 + rest)) at number width (length-set bytes at (48 + rest) ∙ d.ten) d.inside narrow
    (take-set bytes at (48 + rest) ∙ sym (take-take at (at + 1) bytes (omega arith)) ∙ ap (take at) d.zeros ∙ take-replicate at (at + 1) 48 (omega arith))
    (drop-set bytes at (48 + rest) (omega (arith, d.inside, d.ten)) ∙ ap (λ x. x ++ drop (at + 1) bytes) (sym (decimal_digit rest last)) ∙ d.digits)

-- what a name ends in passes
number_digit : (name : List ℕ) (k : ℕ) → length name - digits_len name ≤ k → k < length name → is_ascii_digit (get_or name k 0) ≡ true
number_digit name k from within =
    let back : length name - 1 - (length name - 1 - k) ≡ k = omega arith in
    let short : length name - 1 - k < digits_len name = omega (arith, suffix_len-le-length is_ascii_digit name) in
    let turned : get_or (reverse name) (length name - 1 - k) 0 ≡ get_or name k 0 = get_or-reverse name (length name - 1 - k) 0 (omega arith) ∙ ap (λ n. get_or name n 0) back in
    ap is_ascii_digit (sym turned) ∙ prefix_len_passes is_ascii_digit (reverse name) (length name - 1 - k) 0 short

pub all_digits_is : (ds : List ℕ) → all_ascii_digits ds ≡ list_all is_ascii_digit ds
all_digits_is [] = refl
all_digits_is (d ∷ ds) = ap (λ b. is_ascii_digit d && b) (all_digits_is ds)

-- the digits that a name ends in are digits
pub number_digits_pass : (name : List ℕ) → all_ascii_digits (number_digits name) ≡ true
number_digits_pass name =
    let from = length name - digits_len name in
    let each : (i : ℕ) → i < length (drop from name) → is_ascii_digit (get_or (drop from name) i 0) ≡ true =
    λ i h. ap is_ascii_digit (get_or-drop from name i 0) ∙ number_digit name (from + i) (omega arith) (omega (arith, length-drop from name)) in
    all_digits_is (drop from name) ∙ list_all-from_AllPass is_ascii_digit (drop from name) (All-from_get_or (λ b. is_ascii_digit b ≡ true) (drop from name) 0 each)

pub length-number_digits : (name : List ℕ) → length (number_digits name) ≡ digits_len name
length-number_digits name = omega (arith, length-drop (length name - digits_len name) name, suffix_len-le-length is_ascii_digit name)
