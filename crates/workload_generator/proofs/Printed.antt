-- Texts of printed ASCII bytes.
use Rattle.std.proofs.Common.{◌≡◌, ℕ, ◌^◌, ◌<◌, ◌≤◌, ◌&&◌, Bool, true, List, [], ◌∷◌, ◌++◌, refl, ◌∙◌, arith}
use Rattle.std.specs.Prelude.{nat_le, nat_lt, decimal}
use Rattle.std.specs.List.{list_all}
use Rattle.std.specs.Str.{IsAscii}
use Rattle.std.specs.Str.Parse.{AllDigits}
use Rattle.std.proofs.lemmas.Bool.{and_parts}
use Rattle.std.proofs.lemmas.Bool.Decides.{nat_tests}
use Rattle.std.proofs.lemmas.Fmt.{decimal_is_IsNumeral}
use Rattle.std.proofs.lemmas.List.Folds.{list_all-append}
use Rattle.std.proofs.lemmas.Str.Ascii.{IsAscii-nil, IsAscii-cons}
use Rattle.std.proofs.lemmas.Str.Parse.{digit_from_value}

-- a byte that is printed
abbrev pub is_printed : ℕ → Bool
is_printed b = nat_le 32 b && nat_lt b 127

-- each byte of a text passes a test
abbrev pub Passes : (ℕ → Bool) → List ℕ → Type 0
Passes test text = list_all test text ≡ true

pub passes_both : (test : ℕ → Bool) (xs ys : List ℕ) → Passes test xs → Passes test ys → Passes test (xs ++ ys)
passes_both test xs ys x y = list_all-append test xs ys ∙ rw (x, y) refl

-- a test that each digit passes
abbrev pub DigitsPass : (ℕ → Bool) → Type 0
DigitsPass test = (c : ℕ) → 48 ≤ c → c ≤ 57 → test c ≡ true

digits_pass : (test : ℕ → Bool) → DigitsPass test → (ds : List ℕ) → AllDigits 10 ds → Passes test ds
digits_pass test each [] d = refl
digits_pass test each (c ∷ cs) d =
    let in_range = digit_from_value c d.0 in
    rw (each c (omega (arith, in_range)) (omega (arith, in_range)), digits_pass test each cs d.1) refl

pub number_passes : (test : ℕ → Bool) → DigitsPass test → (n : ℕ) → n < 2 ^ 64 → Passes test (decimal n)
number_passes test each n small = digits_pass test each (decimal n) (decimal_is_IsNumeral n small).0.1

pub digits_printed : DigitsPass is_printed
digits_printed c low high = grind (arith, nat_tests)

-- what is printed is ASCII
pub printed_ascii : (text : List ℕ) → Passes is_printed text → IsAscii text
printed_ascii [] h = IsAscii-nil
printed_ascii (b ∷ bs) h =
    let both = and_parts (is_printed b) (list_all is_printed bs) h in
    IsAscii-cons b bs (grind (arith, nat_tests)) (printed_ascii bs both.1)
