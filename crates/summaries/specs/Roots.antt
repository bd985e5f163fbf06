-- The store that landings leave.
use Rattle.std.specs.Prelude.{ℕ, List, Option, flat_map, length}
use Rattle.kvs_txn.specs.declared.txn.Group.{Group}
use Rattle.kvs_txn.specs.declared.txn.Op.{Op}
use Rattle.kvs_txn.specs.declared.txn.Scope.TheVariants as scope
use Rattle.kvs_model.specs.Store.{Store}
use Rattle.kvs_model.specs.History.{after, first_store}

-- the operations of a landing's transactions
abbrev pub ops_of : List Group → List Op
ops_of groups = flat_map (λ group. group.txn.ops) groups

-- the store of `primary` after these landings, where none is refused
abbrev pub store_left : List ℕ → List (List Group) → Option Store
store_left grant landings = after scope.Primary landings (length landings) (first_store grant)
