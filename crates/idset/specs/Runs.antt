-- The canonical text of a set of ids (Flux RFC 22).
use Rattle.std.specs.Prelude.{ℕ, ◌+◌, ◌==◌, List, [], ◌∷◌, ◌++◌, map, if◌then◌else◌}
use Rattle.std.specs.List.{join_with_byte}
use Rattle.std.specs.Fmt.{decimal}
use Rattle.lists.specs.Ascii.{dash}
use Rattle.idset.specs.declared.ranges.IdRange.{IdRange}

-- the runs with one id more before them, which lengthens the first run where it is the id before
-- that
abbrev pub onto_runs : ℕ → List IdRange → List IdRange
onto_runs id [] = record { first = id; last = id } ∷ []
onto_runs id (r ∷ rs) = if r.first == id + 1 then record { first = id; last = r.last } ∷ rs
    else record { first = id; last = id } ∷ r ∷ rs

-- the maximal runs of neighbours among rising ids
abbrev pub runs : List ℕ → List IdRange
runs [] = []
runs (id ∷ ids) = onto_runs id (runs ids)

-- a run of one prints as its id, a longer one as its first and last id with a dash between
abbrev pub range_text : IdRange → List ℕ
range_text r = if r.first == r.last then decimal r.first
    else decimal r.first ++ dash ∷ decimal r.last

-- the runs joined by commas
unfoldable pub printed : List ℕ → List ℕ
printed ids = join_with_byte 44 (map range_text (runs ids))
