-- The cores, or the GPUs, of a host, each of them free or held.
use Rattle.std.specs.Prelude.{ℕ, Bool, List, true, map, filter, if◌then◌else◌}
use Rattle.idset.specs.Ids.{has}
use Rattle.graph_match.specs.declared.spot.Spot.{Spot}

-- the ids of spots, and those that are free
abbrev pub ids_of : List Spot → List ℕ
ids_of spots = map (λ s. s.id) spots

abbrev pub free_ids : List Spot → List ℕ
free_ids spots = ids_of (filter (λ s. s.free) spots)

abbrev pub free_spot : ℕ → Spot
free_spot id = record { id = id; free = true }

-- a spot once these ids are free, or held
abbrev pub marked_at : Bool → List ℕ → Spot → Spot
marked_at free ids spot =
    record { id = spot.id; free = if has ids spot.id then free else spot.free }
