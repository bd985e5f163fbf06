-- What brokers have heard of `primary`, and which store each of them has.
use Rattle.std.specs.Prelude.{ℕ, ◌-◌, Option}
use Rattle.kvs_model.specs.History.{after, first_store}
use Rattle.kvs_model.specs.Store.{Store}
use Rattle.kvs_txn.specs.declared.txn.Scope.TheVariants.{Primary}
use Rattle.kvs_space.specs.Space.{known_at}
use Rattle.kvs_keys.specs.Histories.{history_of}
use Rattle.kvs_keys.specs.Value.{KeysValue}

-- the number that the broker has heard of `primary`, the first namespace of the table
abbrev pub primary_heard : KeysValue → ℕ → ℕ
primary_heard v broker = known_at v.spaces 0 broker - 1

-- the store of `primary` after its landings up to this number
abbrev pub root_of : KeysValue → ℕ → Option Store
root_of v number = after Primary (history_of v) number (first_store v.grant)

-- the store of `primary` that the broker has
abbrev pub store_at : KeysValue → ℕ → Option Store
store_at v broker = root_of v (primary_heard v broker)
