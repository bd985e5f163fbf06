-- The hosts that a text spells, and the first fault of a text that spells none (Flux RFC 29).
-- A text is cut at its commas. A piece stands in a bracket, behind its prefix, or outside of one.
use Rattle.std.specs.Prelude.{ℕ, ◌+◌, ◌-◌, ◌==◌, nat_lt, List, [], ◌∷◌, ◌++◌, map, Option, Some, None, is_some, length, drop, unwrap_or, if◌then◌else◌}
use Rattle.std.specs.Option.{option_map_or}
use Rattle.std.specs.List.{slice_split, take_while, prefix_len, range_with_len}
use Rattle.std.specs.Char.{is_ascii_digit}
use Rattle.outcomes.specs.Outcomes.{first_some, or_else}
use Rattle.lists.specs.Ascii.{closing_bracket, comma, dash, opening_bracket}
use Rattle.hostlist.specs.Names.{is_name_byte, value_of, padded}
use Rattle.hostlist.specs.declared.faults.HostFault.{HostFault}
use Rattle.hostlist.specs.declared.faults.HostFault.TheVariants.{BadText, Backwards, TooMany, NoMemory}

-- what stands behind this byte, where the text begins with it
abbrev pub behind : ℕ → List ℕ → Option (List ℕ)
behind c [] = None
behind c (b ∷ bs) = if b == c then Some bs else None

-- the digits that a text begins with, and what stands behind them
abbrev pub digits_at : List ℕ → List ℕ
digits_at text = take_while is_ascii_digit text

abbrev pub behind_digits : List ℕ → List ℕ
behind_digits text = drop (prefix_len is_ascii_digit text) text

-- where the last number of a range begins: behind the dash, or at the first number where there is
-- no dash
abbrev pub last_number : List ℕ → List ℕ
last_number range = unwrap_or (behind dash (behind_digits range)) range

-- what stands behind a range
abbrev pub range_end : List ℕ → List ℕ
range_end range = behind_digits (last_number range)

-- the hosts of a range behind this prefix
abbrev pub range_hosts : List ℕ → List ℕ → List (List ℕ)
range_hosts prefix range = map (λ number. prefix ++ padded (length (digits_at range)) number)
    (range_with_len (value_of (digits_at range))
    (value_of (digits_at (last_number range)) + 1 - value_of (digits_at range)))

-- the prefix of a piece: that of the bracket in which it stands, or the name that the piece begins
-- with
abbrev pub prefix_of : Option (List ℕ) → List ℕ → List ℕ
prefix_of None piece = take_while is_name_byte piece
prefix_of (Some prefix) piece = prefix

-- the range in a bracket that a piece has, if it is no plain name
abbrev pub range_of : Option (List ℕ) → List ℕ → Option (List ℕ)
range_of None piece = behind opening_bracket (drop (prefix_len is_name_byte piece) piece)
range_of (Some prefix) piece = Some piece

-- the hosts of a piece
unfoldable pub piece_hosts : Option (List ℕ) → List ℕ → List (List ℕ)
piece_hosts bracket piece = option_map_or (λ range. range_hosts (prefix_of bracket piece) range)
    (range_of bracket piece) (prefix_of bracket piece ∷ [])

-- the bracket in which the next piece stands, seen by its prefix: nothing stands behind this
-- piece's range
unfoldable pub bracket_behind : Option (List ℕ) → List ℕ → Option (List ℕ)
bracket_behind bracket piece = option_map_or (λ range. if length (range_end range) == 0
    then Some (prefix_of bracket piece) else None) (range_of bracket piece) None

-- a number has 1 to 9 digits
abbrev pub number_fault : ℕ → List ℕ → Option HostFault
number_fault place text = if prefix_len is_ascii_digit text == 0 then Some (BadText place)
    else if nat_lt 9 (prefix_len is_ascii_digit text) then Some (BadText (place + 9)) else None

-- behind a range stands nothing, or the end of the bracket alone
abbrev pub end_fault : ℕ → List ℕ → Option HostFault
end_fault place [] = None
end_fault place (b ∷ bs) = if b == closing_bracket
    then (if length bs == 0 then None else Some (BadText (place + 1))) else Some (BadText place)

-- the first fault of a range that begins at this place
abbrev pub range_fault : ℕ → List ℕ → Option HostFault
range_fault place range = first_some (number_fault place range
    ∷ number_fault (place + (length range - length (last_number range))) (last_number range)
    ∷ (if nat_lt (value_of (digits_at (last_number range))) (value_of (digits_at range))
    then Some (Backwards place) else None)
    ∷ end_fault (place + (length range - length (range_end range))) (range_end range) ∷ [])

-- the fault of the name that a piece outside of brackets begins with: no byte of a name stands
-- there, or another byte than `[` stands behind it
abbrev pub name_fault : ℕ → List ℕ → Option HostFault
name_fault place piece = if prefix_len is_name_byte piece == 0 then Some (BadText place)
    else if nat_lt (prefix_len is_name_byte piece) (length piece) then
    (if is_some (range_of None piece) then None
    else Some (BadText (place + prefix_len is_name_byte piece)))
    else None

-- the first fault of a piece that begins at this place
unfoldable pub piece_fault : ℕ → Option (List ℕ) → List ℕ → Option HostFault
piece_fault place bracket piece = or_else (if is_some bracket then None else name_fault place piece)
    (option_map_or (λ range. range_fault (place + (length piece - length range)) range)
    (range_of bracket piece) None)

-- the hosts of further pieces
abbrev pub hosts_in : Option (List ℕ) → List (List ℕ) → List (List ℕ)
hosts_in bracket [] = []
hosts_in bracket (piece ∷ more) =
    piece_hosts bracket piece ++ hosts_in (bracket_behind bracket piece) more

-- the first fault of further pieces, the first of which begins at this place; at the text's end
-- each bracket has ended
abbrev pub fault_in : ℕ → ℕ → Option (List ℕ) → List (List ℕ) → Option HostFault
fault_in end place bracket [] = if is_some bracket then Some (BadText end) else None
fault_in end place bracket (piece ∷ more) = or_else (piece_fault place bracket piece)
    (fault_in end (place + length piece + 1) (bracket_behind bracket piece) more)

-- what stands between the commas of a text; the empty text has no piece
unfoldable pub pieces : List ℕ → List (List ℕ)
pieces [] = []
pieces (b ∷ bs) = slice_split (λ c. c == comma) (b ∷ bs)

-- the hosts that a text without a fault spells, in its order
unfoldable pub spelled : List ℕ → List (List ℕ)
spelled text = hosts_in None (pieces text)

-- the first fault of a text, if it has one: it spells no hosts
unfoldable pub text_fault : List ℕ → Option HostFault
text_fault text = fault_in (length text) 0 None (pieces text)

-- a text spells at most 65,536 hosts
unfoldable pub first_fault : List ℕ → Option HostFault
first_fault text =
    or_else (text_fault text) (if nat_lt 65536 (length (spelled text)) then Some TooMany else None)

-- the faults that tell of what is read: all but want of memory
abbrev pub lasting : HostFault → Option HostFault
lasting NoMemory = None
lasting fault = Some fault
