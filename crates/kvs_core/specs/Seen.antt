-- What brokers have heard of `primary`, and which store each of them has.
use Rattle.std.specs.Prelude.{ℕ, Option}
use Rattle.kvs_model.specs.Store.{Store}
use Rattle.kvs_keys.specs.Seen as keys
use Rattle.kvs_core.specs.Value.{CoreValue}

-- the number that the broker has heard of `primary`
abbrev pub primary_heard : CoreValue → ℕ → ℕ
primary_heard v broker = keys.primary_heard v.keys broker

-- the store of `primary` after its landings up to this number
abbrev pub root_of : CoreValue → ℕ → Option Store
root_of v number = keys.root_of v.keys number

-- the store of `primary` that the broker has
abbrev pub store_at : CoreValue → ℕ → Option Store
store_at v broker = keys.store_at v.keys broker
