-- How many names lie directly in each place, and which slots a listing has to look at.
use Rattle.std.specs.Prelude.{◌≡◌, ℕ, List, [], ◌∷◌, Bool, true, not, ◌||◌, ◌&&◌, Option, IsSome, IsTrue, filter, length, is_some, if◌then◌else◌, unwrap_or}
use Rattle.std.specs.List.{list_any}
use Rattle.std.specs.Ordering.{is_le}
use Rattle.std.specs.FinMap.Entries as entries
use Rattle.std.specs.Global.{Vec}
use Rattle.kvs_model.specs.Store.{Path, Name, path_cmp, child_name, is_within, names_in}
use Rattle.plain_store.specs.declared.slots.Change.{Change}
use Rattle.plain_store.specs.Held.{Slots, keyed, store_of}

-- the counts, in the order of their places
abbrev pub Counts : Type 0
Counts = List (Vec Name × ℕ)

-- the count that is kept for a place, if one is
unfoldable pub kept_at : Counts → Path → Option ℕ
kept_at counts place = entries.find path_cmp place (keyed counts)

-- the count of a place, 0 where none is kept
abbrev pub count_at : Counts → Path → ℕ
count_at counts place = unwrap_or (kept_at counts place) 0

-- 1 where the path lies directly in the place, else 0
abbrev pub weight : Path → Path → ℕ
weight place path = if is_some (child_name place path) then 1 else 0

-- the number where the test holds, else 0
abbrev pub times : Bool → ℕ → ℕ
times test n = if test then n else 0

-- each count is that of the names in its place
abbrev pub AreCounts : Slots → Counts → Type 0
AreCounts slots counts = (place : Path)
    → count_at counts place ≡ length (names_in (store_of slots) place)

-- a count is kept for the place in which the path lies
abbrev pub IsCountable : Counts → Path → Type 0
IsCountable counts path = (place : Path) → IsSome (child_name place path)
    → IsSome (kept_at counts place)

-- a count is kept for each place in which a change was
abbrev pub AreCountable : List Change → Counts → Type 0
AreCountable log counts = (place : Path)
    → IsTrue (list_any (λ change. is_some (child_name place change.path.items)) log)
    → IsSome (kept_at counts place)

-- the slots whose paths are this one or behind it
abbrev pub from_on : Path → Slots → Slots
from_on path slots = filter (λ e. is_le (path_cmp path e.0.items)) slots

-- whether none of the slots' paths is the path or below it
abbrev pub are_outside : Path → Slots → Bool
are_outside path [] = true
are_outside path (e ∷ slots) = not (is_within path e.0.items) && are_outside path slots

-- whether the slots at and below the path stand before all others
abbrev pub stand_together : Path → Slots → Bool
stand_together path [] = true
stand_together path (e ∷ slots) =
    (is_within path e.0.items || are_outside path slots) && stand_together path slots
