-- The roll of a table of namespaces: their names, and where something may still happen.
use Rattle.std.specs.Prelude.{◌≡◌, ℕ, ◌<◌, ◌==◌, Bool, true, false, List, length, map, slice_index_or}
use Rattle.std.specs.List.{All, AllPairs, list_any}
use Rattle.kvs_model.specs.Store.{Name}
use Rattle.kvs_space.specs.Space.{SpaceValue, is_at_rest}

-- the names in the order of the table, and the places that are awake
pub record RollValue : Type 0 where
  pub names : List Name
  pub awake : List ℕ

-- whether the place is awake
abbrev pub is_awake : RollValue → ℕ → Bool
is_awake roll place = list_any (λ other. other == place) roll.awake

-- it is the roll of this table: it has the names of its namespaces, the places that are awake rise
-- and are of the table, and the namespaces of all others are at rest
pub record IsRoll (roll : RollValue) (spaces : List SpaceValue) : Type 0 where
  pub names : roll.names ≡ map (λ s. s.name) spaces
  pub rises : AllPairs (λ one other. one < other) roll.awake
  pub within : All (λ place. place < length spaces) roll.awake
  pub resting : (k : ℕ) (d : SpaceValue) → k < length spaces → is_awake roll k ≡ false
      → is_at_rest (slice_index_or spaces k d) ≡ true
