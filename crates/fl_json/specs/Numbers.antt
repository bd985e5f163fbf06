-- The number tokens of a text, and the text in which each of them is a whole number.
use Rattle.std.specs.Prelude.{ℕ, zero, suc, ◌+◌, ◌-◌, ◌^◌, ◌==◌, ◌&&◌, ◌||◌, nat_lt, nat_le, List, [], ◌∷◌, length, take, drop, Bool, true, false, not, Option, Some, None, is_some, is_none, unwrap_or, flat_map, if◌then◌else◌}
use Rattle.std.specs.Char.{is_ascii_digit}
use Rattle.std.specs.List.{list_all, prefix_len}
use Rattle.std.specs.Option.{option_map_or}
use Rattle.std.specs.Str.{all_ascii_digits}
use Rattle.std.specs.Str.Parse.{digits_value}
use Rattle.json.specs.Ascii.{quote, backslash, plus, minus, dot, lower_e, upper_e, zero as zero_digit}
use Rattle.json.specs.Word.{head, after_minus, after_number}

-- a number token begins at `-` or a digit
abbrev pub begins_number : ℕ → Bool
begins_number b = b == minus || is_ascii_digit b

-- and extends over digits, `+`, `-`, `.`, `e` and `E`
abbrev pub continues_number : ℕ → Bool
continues_number b =
    is_ascii_digit b || b == plus || b == minus || b == dot || b == lower_e || b == upper_e

-- how far a string reaches behind its first quote, with its last quote; whether the next byte is
-- escaped
abbrev pub string_len : Bool → List ℕ → ℕ
string_len escaped [] = 0
string_len true (b ∷ bs) = suc (string_len false bs)
string_len false (b ∷ bs) = if b == quote then 1 else suc (string_len (b == backslash) bs)

-- how long the first piece of a text is: a string, a number token or another byte
abbrev pub piece_len : List ℕ → ℕ
piece_len [] = 0
piece_len (b ∷ bs) = if b == quote then suc (string_len false bs)
    else if begins_number b then suc (prefix_len continues_number bs)
    else 1

-- the pieces that a text is cut into, behind its first bytes
unfoldable pub pieces_behind : ℕ → List ℕ → List (List ℕ)
pieces_behind passed [] = []
pieces_behind zero (b ∷ bs) =
    take (piece_len (b ∷ bs)) (b ∷ bs) ∷ pieces_behind (piece_len (b ∷ bs) - 1) bs
pieces_behind (suc passed) (b ∷ bs) = pieces_behind passed bs

-- the text cut into strings, number tokens and other bytes, from the left
abbrev pub pieces : List ℕ → List (List ℕ)
pieces text = pieces_behind 0 text

-- ---- what becomes of a token

-- the token is a JSON number (RFC 8259, section 6)
abbrev pub is_number : List ℕ → Bool
is_number token = option_map_or (λ rest. length rest == 0) (after_number token) false

-- the number below 2^64 that decimal digits write
unfoldable pub natural : List ℕ → Option ℕ
natural digits = if not (length digits == 0) && all_ascii_digits digits
    && nat_lt (digits_value 10 digits) (2 ^ 64) then Some (digits_value 10 digits) else None

-- how far below 0 a whole number may be
abbrev pub is_magnitude : ℕ → Bool
is_magnitude n = nat_lt 0 n && nat_le n (2 ^ 63)

-- the token is a whole number from -2^63 to 2^64 - 1 other than -0
unfoldable pub is_whole : List ℕ → Bool
is_whole token = is_number token && (if head token == minus then option_map_or is_magnitude
    (natural (after_minus token)) false else is_some (natural (after_minus token)))

-- what stands before the first point, and what stands from it on
abbrev pub point_at : List ℕ → ℕ
point_at token = prefix_len (λ b. not (b == dot)) token

abbrev pub whole_part : List ℕ → List ℕ
whole_part token = take (point_at token) token

abbrev pub fraction : List ℕ → List ℕ
fraction token = drop (point_at token) token

-- nothing, or a point and one or more zeros
abbrev pub are_zeros : List ℕ → Bool
are_zeros digits = list_all (λ b. b == zero_digit) digits

abbrev pub is_no_fraction : List ℕ → Bool
is_no_fraction rest = length rest == 0 || (nat_lt 1 (length rest) && are_zeros (drop 1 rest))

-- what is kept of a number token; nothing of a JSON number that isn't whole
unfoldable pub kept_number : List ℕ → Option (List ℕ)
kept_number token = if is_whole (whole_part token) && is_no_fraction (fraction token)
    then Some (whole_part token)
    else if is_number token then None
    else Some token

-- what is kept of a piece
unfoldable pub kept : List ℕ → Option (List ℕ)
kept piece = if begins_number (head piece) then kept_number piece else Some piece

-- ---- what becomes of a text

-- the place of the first piece of which nothing is kept; the first of all pieces stands at this
-- place
unfoldable pub first_lost : ℕ → List (List ℕ) → Option ℕ
first_lost place [] = None
first_lost place (piece ∷ more) =
    if is_none (kept piece) then Some place else first_lost (place + length piece) more

-- the place of the first number that isn't whole
abbrev pub first_bad_number : List ℕ → Option ℕ
first_bad_number text = first_lost 0 (pieces text)

unfoldable pub all_kept : List (List ℕ) → List ℕ
all_kept pieces = flat_map (λ piece. unwrap_or (kept piece) []) pieces

-- the text in which whole numbers have no fraction
abbrev pub rewritten : List ℕ → List ℕ
rewritten text = all_kept (pieces text)
