-- What the reader keeps of a piece of a text: its prefix, and the range in a bracket if it has one.
use Rattle.std.specs.Prelude.{ℕ, ◌≡◌, ◌+◌, ◌-◌, ◌==◌, List, [], ◌∷◌, ◌++◌, map, not, Option, Some, None, length, if◌then◌else◌}
use Rattle.std.specs.Option.{option_map_or}
use Rattle.std.specs.List.{range_with_len, slice_split}
use Rattle.lists.specs.Ascii.{comma}
use Rattle.hostlist.specs.Names.{padded, value_of}
use Rattle.hostlist.specs.Reading.{digits_at, last_number, range_end}
use Rattle.hostlist.specs.declared.parts.Range.{Range}
use Rattle.hostlist.specs.declared.parts.Part.{Part}

-- what is kept of the text of a range
pub record IsRange (text : List ℕ) (range : Range) : Type 0 where
  pub width : range.width ≡ length (digits_at text)
  pub first : range.first ≡ value_of (digits_at text)
  pub last : range.last ≡ value_of (digits_at (last_number text))
  pub ends : range.is_last ≡ not (length (range_end text) == 0)

-- the hosts of a part
unfoldable pub part_hosts : Part → List (List ℕ)
part_hosts part = option_map_or (λ range. map (λ number. part.prefix.now
    ++ padded range.width number) (range_with_len range.first (range.last + 1 - range.first)))
    part.range (part.prefix.now ∷ [])

-- the bracket in which the next piece stands, seen by its prefix
unfoldable pub part_bracket : Part → Option (List ℕ)
part_bracket part =
    option_map_or (λ range. if range.is_last then None else Some part.prefix.now) part.range None

-- the pieces of what is left of a text: none where nothing is left, and one at least where it is
-- cut on
abbrev pub left : Option (List ℕ) → List (List ℕ)
left rest = option_map_or (λ text. slice_split (λ c. c == comma) text) rest []
