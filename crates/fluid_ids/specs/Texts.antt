-- The three texts of a FLUID (Flux RFC 19).
use Rattle.std.specs.Prelude.{ℕ, ◌/◌, ◌%◌, ◌^◌, ◌==◌, nat_lt, List, [], ◌∷◌, ◌++◌, Bool, not, ◌&&◌, Option, Some, None, Result, Ok, Err, length, map, codes, slice_index, if◌then◌else◌}
use Rattle.std.specs.List.{position_or_len, list_any, list_all}
use Rattle.std.specs.Option.{option_map_or}
use Rattle.std.specs.Int.Digits.{digits_of, number_from_digits}
use Rattle.lists.specs.Ascii.{dot, letter_f}
use Rattle.fluid_ids.specs.declared.faults.FluidFault.{FluidFault}
use Rattle.fluid_ids.specs.declared.faults.FluidFault.TheVariants.{BadText, TooLarge}
use Rattle.fluid_ids.specs.declared.forms.Form.{Form}
use Rattle.fluid_ids.specs.declared.forms.Form.TheVariants.{F58, Dothex, Decimal}

-- the digits in base 58, 10 and 16, each at the place of its value
unfoldable pub base_58 : List ℕ
base_58 = codes "123456789ABCDEFGHJKLMNPQRSTUVWXYZabcdefghijkmnopqrstuvwxyz"

unfoldable pub base_10 : List ℕ
base_10 = codes "0123456789"

unfoldable pub base_16 : List ℕ
base_16 = codes "0123456789abcdef"

-- a digit's value; the base where it is no digit
abbrev pub value_in : List ℕ → ℕ → ℕ
value_in base c = position_or_len (λ d. d == c) base

abbrev pub is_digit_in : List ℕ → ℕ → Bool
is_digit_in base c = nat_lt (value_in base c) (length base)

-- the number that digits write
unfoldable pub number_in : List ℕ → List ℕ → ℕ
number_in base digits = number_from_digits (length base) (map (value_in base) digits)

-- what one or more digits spell
unfoldable pub read_in : List ℕ → List ℕ → Result ℕ FluidFault
read_in base digits = if not (length digits == 0) && list_all (is_digit_in base) digits
    then (if nat_lt (number_in base digits) (2 ^ 64)
    then Ok (number_in base digits) else Err TooLarge) else Err BadText

-- four groups of four bytes with dots between, and the bytes of the groups
abbrev pub is_dotted : List ℕ → Bool
is_dotted text = length text == 19 && slice_index text 4 == dot
    && slice_index text 9 == dot && slice_index text 14 == dot

abbrev pub groups : List ℕ → List ℕ
groups text = map (slice_index text)
    (0 ∷ 1 ∷ 2 ∷ 3 ∷ 5 ∷ 6 ∷ 7 ∷ 8 ∷ 10 ∷ 11 ∷ 12 ∷ 13 ∷ 15 ∷ 16 ∷ 17 ∷ 18 ∷ [])

-- what stands behind `f` or `ƒ`, where a text begins with one
abbrev pub after_mark : List ℕ → Option (List ℕ)
after_mark [] = None
after_mark (b ∷ []) = if b == letter_f then Some [] else None
after_mark (b ∷ c ∷ text) = if b == letter_f then Some (c ∷ text)
    else if b == 198 && c == 146 then Some text else None

-- what a text without a dot spells: F58 behind a mark, and else decimal
unfoldable pub plain : List ℕ → Result ℕ FluidFault
plain text = option_map_or (read_in base_58) (after_mark text) (read_in base_10 text)

-- what a text spells: the number of an id, or why it is none
unfoldable pub meaning : List ℕ → Result ℕ FluidFault
meaning text = if list_any (λ b. b == dot) text
    then (if is_dotted text then read_in base_16 (groups text) else Err BadText) else plain text

-- a number's digits without leading zeros, 0 being one digit
unfoldable pub digits_in : List ℕ → ℕ → List ℕ
digits_in base n = if n == 0 then slice_index base 0 ∷ []
    else map (slice_index base) (digits_of (length base) n)

-- the four hexadecimal digits of 16 bits
abbrev pub group_text : ℕ → List ℕ
group_text g = slice_index base_16 (g / 16 / 16 / 16) ∷ slice_index base_16 (g / 16 / 16 % 16)
    ∷ slice_index base_16 (g / 16 % 16) ∷ slice_index base_16 (g % 16) ∷ []

-- the text of an id in each form
unfoldable pub printed : Form → ℕ → List ℕ
printed F58 id = letter_f ∷ digits_in base_58 id
printed Decimal id = digits_in base_10 id
printed Dothex id =
    group_text (id / 65536 / 65536 / 65536) ++ (dot ∷ (group_text (id / 65536 / 65536 % 65536)
    ++ (dot ∷ (group_text (id / 65536 % 65536) ++ (dot ∷ group_text (id % 65536))))))
