-- How far an actor has seen, namespace by namespace.
use Rattle.std.specs.Prelude.{ℕ, max, List, Option, Some, None, option_map, unwrap_or, if◌then◌else◌}
use Rattle.std.specs.List.{cons_option}
use Rattle.std.specs.Map.{lookup}
use Rattle.std.specs.Str.{bytes_eq}
use Rattle.services.specs.answers.Floors.{number_in}
use Rattle.services.specs.kvs_model.Store.{Name}
use Rattle.services.specs.kvs_txn.declared.answers.Numbered.{Numbered}

-- numbers by their namespaces
abbrev pub Floors : Type 0
Floors = List (Name × ℕ)

-- the number of a namespace, or 0 where it has none
abbrev pub floor_in : Floors → Name → ℕ
floor_in floors space = unwrap_or (lookup (bytes_eq space) floors) 0

-- the number of a namespace, once one is seen of this subject, if it is
abbrev pub risen_in : Floors → Name → Option ℕ → Name → ℕ
risen_in floors subject None space = floor_in floors space
risen_in floors subject (Some number) space =
    if bytes_eq space subject then max (floor_in floors space) number else floor_in floors space

-- the number of a namespace, once a reply about this subject is seen that names these further roots
abbrev pub seen_in : Floors → Name → Option ℕ → List Numbered → Name → ℕ
seen_in floors subject number uses space = max (floor_in floors space) (number_in space
    (cons_option (option_map (λ n. record { namespace = subject; number = n }) number) uses))
