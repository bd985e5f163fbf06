-- The number that at most ten digits write, digit by digit.
use Rattle.std.proofs.Common.{◌≡◌, ℕ, ◌+◌, ◌-◌, ◌*◌, ◌^◌, ◌<◌, ◌≤◌, true, ◌&&◌, leb, List, length, take, get_or, refl, lit≤, arith}
use Rattle.std.specs.Char.{is_ascii_digit}
use Rattle.std.specs.Int.{IsInRange}
use Rattle.std.specs.List.{list_all}
use Rattle.std.specs.Str.Parse.{digits_value}
use Rattle.std.proofs.lemmas.Bool.Decides.{nat_tests}
use Rattle.std.proofs.lemmas.Int.Digits.{digits_value_more}
use Rattle.std.proofs.lemmas.Str.{digit_value_digit}
use Rattle.std.proofs.lemmas.Str.Parse.{IsDigitsTest, IsNumeralModel, numerals_by_value, tells_by_index, digits_value_short, digits_value-take-le}
use Rattle.std.specs.Prelude.{Bool}

split : (a b c : Bool) → ((a && b) && c) ≡ true → (a ≡ true) × (b ≡ true) × (c ≡ true)
split a b c h = (grind (arith, nat_tests), grind (arith, nat_tests), grind (arith, nat_tests))

join : (a b c : Bool) → a ≡ true → b ≡ true → c ≡ true → ((a && b) && c) ≡ true
join a b c h k l = cc

tells : IsDigitsTest (λ ds. list_all is_ascii_digit ds ≡ true)
tells = record {
  empty = refl;
  parts = λ c cs e. let k = split (leb 48 c) (leb c 57) (list_all is_ascii_digit cs) e in (grind (arith, nat_tests, k.0, k.1), k.2);
  more = λ c cs k e. join (leb 48 c) (leb c 57) (list_all is_ascii_digit cs) (grind (arith, nat_tests, k.0)) (grind (arith, nat_tests, k.1)) e;
}

own : IsNumeralModel (λ ds. list_all is_ascii_digit ds ≡ true) (digits_value 10)
own = numerals_by_value _ tells

-- each byte is a digit
pub digit_at : (ds : List ℕ) (i : ℕ) → list_all is_ascii_digit ds ≡ true → i < length ds → IsInRange 48 57 (get_or ds i 0)
digit_at ds i h l = (numerals_by_value _ tells_by_index).from ds (own.to ds h) i l

-- one digit more
pub one_more : (ds : List ℕ) (i : ℕ) → list_all is_ascii_digit ds ≡ true → i < length ds → digits_value 10 (take (i + 1) ds) ≡ digits_value 10 (take i ds) * 10 + (get_or ds i 0 - 48)
one_more ds i h l = let k = digit_at ds i h l in omega (arith, digits_value_more 10 ds i l, digit_value_digit (get_or ds i 0) k, k.0, k.1)

-- ten digits write less than 10^10
pub is_small : (ds : List ℕ) (i : ℕ) → list_all is_ascii_digit ds ≡ true → length ds ≤ 10 → digits_value 10 (take i ds) < 10 ^ 10
is_small ds i h l = omega (arith, digits_value-take-le 10 ds i (lit≤ tt), digits_value_short own ds 10 h l)
