-- The idset that a text spells, and the first fault of a text that spells none (Flux RFC 22).
use Rattle.std.specs.Prelude.{ℕ, ◌+◌, ◌==◌, nat_lt, nat_le, List, [], ◌∷◌, Bool, true, false, not, ◌&&◌, Option, Some, None, length, drop, map, if◌then◌else◌}
use Rattle.std.specs.List.{position_or_len, before_first, slice_split}
use Rattle.std.specs.Char.{is_ascii_digit}
use Rattle.std.specs.Str.Parse.{digits_value}
use Rattle.outcomes.specs.Outcomes.{first_of, or_else}
use Rattle.lists.specs.Ascii.{closing_bracket, comma, dash, digit_zero, opening_bracket}
use Rattle.idset.specs.Ranges.{ids_in}
use Rattle.idset.specs.declared.ranges.IdRange.{IdRange}
use Rattle.idset.specs.declared.faults.IdFault.{IdFault}
use Rattle.idset.specs.declared.faults.IdFault.TheVariants as fault

abbrev pub is_empty : List ℕ → Bool
is_empty text = length text == 0

abbrev pub is_comma : ℕ → Bool
is_comma b = b == comma

abbrev pub is_close : ℕ → Bool
is_close b = b == closing_bracket

abbrev pub is_no_digit : ℕ → Bool
is_no_digit b = not (is_ascii_digit b)

-- the digits that a text begins with, and what stands behind them
unfoldable pub leading_digits : List ℕ → List ℕ
leading_digits text = before_first is_no_digit text

unfoldable pub behind_digits : List ℕ → List ℕ
behind_digits text = drop (position_or_len is_no_digit text) text

-- digits without the zeros at their start
abbrev pub behind_zeros : List ℕ → List ℕ
behind_zeros [] = []
behind_zeros (d ∷ ds) = if d == digit_zero then behind_zeros ds else d ∷ ds

-- the number that digits write
unfoldable pub number_value : List ℕ → ℕ
number_value digits = digits_value 10 digits

-- the range of two numbers: the digits of the first, and what stands behind the dash
abbrev pub pair_of : List ℕ → List ℕ → IdRange
pair_of first tail =
    record { first = number_value first; last = number_value (leading_digits tail) }

abbrev pub range_behind : List ℕ → List ℕ → IdRange
range_behind first [] = record { first = number_value first; last = number_value first }
range_behind first (b ∷ tail) = pair_of first tail

-- the range that an item spells: `a-b`, or one number, which is a range of one id
abbrev pub range_of : List ℕ → IdRange
range_of item = range_behind (leading_digits item) (behind_digits item)

-- what stands between the brackets, or all where there are none; its place; what it is cut into at
-- commas
abbrev pub body : List ℕ → List ℕ
body [] = []
body (b ∷ bs) = if b == opening_bracket then before_first is_close bs else b ∷ bs

abbrev pub is_bracketed : List ℕ → Bool
is_bracketed [] = false
is_bracketed (b ∷ bs) = b == opening_bracket

abbrev pub body_place : List ℕ → ℕ
body_place text = if is_bracketed text then 1 else 0

abbrev pub items : List ℕ → List (List ℕ)
items [] = []
items (b ∷ bs) = slice_split is_comma (b ∷ bs)

-- a text without a fault spells the ids of its items' ranges
unfoldable pub spelled : List ℕ → List ℕ
spelled text = ids_in (map range_of (items (body text)))

-- the faults of a range of two numbers that begins at a place, from left to right, Backwards first
abbrev pub pair_faults : ℕ → List ℕ → List ℕ → List (Bool × IdFault)
pair_faults place first tail = (
  not (is_empty (leading_digits tail))
      && nat_lt (number_value (leading_digits tail)) (number_value first),
  fault.Backwards place,
)
    ∷ (nat_le 65536 (number_value first), fault.TooLarge place)
    ∷ (is_empty (leading_digits tail), fault.BadText (place + length first + 1))
    ∷ (nat_le 65536 (number_value (leading_digits tail)), fault.TooLarge (place + length first + 1))
    ∷ (
      not (is_empty (behind_digits tail)),
      fault.BadText
          (place + length first + 1 + length (leading_digits tail)),
    )
    ∷ []

-- the faults behind an item's first digits
abbrev pub behind_faults : ℕ → List ℕ → List ℕ → List (Bool × IdFault)
behind_faults place first [] = (nat_le 65536 (number_value first), fault.TooLarge place) ∷ []
behind_faults place first (b ∷ tail) = if b == dash then pair_faults place first tail
    else (nat_le 65536 (number_value first), fault.TooLarge place)
    ∷ (true, fault.BadText (place + length first))
    ∷ []

-- the faults of an item that begins at a place, from left to right
abbrev pub item_faults : ℕ → List ℕ → List (Bool × IdFault)
item_faults place item = (is_empty (leading_digits item), fault.BadText place)
    ∷ behind_faults place (leading_digits item) (behind_digits item)

-- the first fault of items, the first of which begins at a place
abbrev pub faults_in : ℕ → List (List ℕ) → Option IdFault
faults_in place [] = None
faults_in place (item ∷ more) =
    or_else (first_of (item_faults place item)) (faults_in (place + length item + 1) more)

-- the faults behind the items: the closing bracket is missing, or something stands behind it
abbrev pub end_faults : List ℕ → List (Bool × IdFault)
end_faults text = if is_bracketed text
    then (length (body text) + 1 == length text, fault.BadText (length (body text) + 1))
    ∷ (nat_lt (length (body text) + 2) (length text), fault.BadText (length (body text) + 2))
    ∷ []
    else []

-- the leftmost fault of a text, if it has one
unfoldable pub first_fault : List ℕ → Option IdFault
first_fault text =
    or_else (faults_in (body_place text) (items (body text))) (first_of (end_faults text))

-- the faults that tell of what is read: all but want of memory
abbrev pub lasting : IdFault → Option IdFault
lasting fault.NoMemory = None
lasting fault = Some fault
