-- Where the logs of jobs stand.
use Rattle.std.specs.Prelude.{◌≡◌, ℕ, ◌==◌, List, Option, Some, Contains, option_and_then}
use Rattle.std.specs.Map.{lookup}
use Rattle.kvs_core.specs.Seen.{store_at}
use Rattle.kvs_core.specs.Value.{CoreValue}
use Rattle.kvs_model.specs.Store.{Path}
use Rattle.manager_rules.specs.Jobs.{StoredJob, ids_of}
use Rattle.manager_rules.specs.Keys.{log_path, value_at}

-- jobs, by id, with where their logs stand
abbrev pub LogPlaces : Type 0
LogPlaces = List (ℕ × Path)

abbrev pub place_in : ℕ → LogPlaces → Option Path
place_in id places = lookup (λ other. id == other) places

-- the places of all these jobs, and nothing else
pub record ArePlaces (jobs : List StoredJob) (places : LogPlaces) : Type 0 where
  pub all : (id : ℕ) → Contains (ids_of jobs) id → place_in id places ≡ Some (log_path id)
  pub right : (id : ℕ) (path : Path) → place_in id places ≡ Some path → path ≡ log_path id

-- the text of a job's log in the store of `primary` that the broker has, if it stands there
abbrev pub log_seen : CoreValue → ℕ → ℕ → Option (List ℕ)
log_seen core broker id = option_and_then (λ st. value_at st (log_path id)) (store_at core broker)
