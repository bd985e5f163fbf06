-- The job manager's transactions that wait in a service of keys.
use Rattle.std.specs.Prelude.{◌≡◌, List, [], ◌∷◌, ◌++◌, Option, Some, None, IsSome, false, flat_map, slice_get, slice_index_or}
use Rattle.std.specs.List.{AllByRecursion as Each, list_any}
use Rattle.std.specs.Option.{option_map_or}
use Rattle.kvs_txn.specs.declared.txn.By.{By}
use Rattle.kvs_txn.specs.declared.txn.Txn.{Txn}
use Rattle.kvs_txn.specs.declared.txn.Group.{Group}
use Rattle.kvs_txn.specs.declared.txn.Scope.TheVariants as scope
use Rattle.kvs_model.specs.Store.{Store}
use Rattle.kvs_model.specs.History.{after_groups}
use Rattle.kvs_rules.specs.declared.events.KvsEvent.{KvsEvent}
use Rattle.kvs_rules.specs.declared.events.KvsEvent.TheVariants as event
use Rattle.kvs_rules.specs.Log.{Log}
use Rattle.kvs_rules.specs.Namespaces.{Setting}
use Rattle.kvs_rules.specs.Landings.{IsFreshCommand, IsUser}
use Rattle.store_laws.specs.Posts.{IsPost, posts_in}
use Rattle.kvs_space.specs.Space.{is_authored}
use Rattle.kvs_keys.specs.Value.{KeysValue}

-- the manager's transactions that wait to land in `primary`, the oldest first
abbrev pub posted : KeysValue → List Group
posted v = option_map_or (λ s. posts_in s.merger.ready) (slice_get v.spaces 0) []

-- the store of `primary` after all its landings
abbrev pub newest_of : KeysValue → Store
newest_of v = option_map_or (λ s. slice_index_or s.stores 0 []) (slice_get v.spaces 0) []

-- the manager's transaction, with the command for which it is made, if there is one
abbrev pub post_of : Option By → Txn → Group
post_of None txn = record { txn = txn; authors = [] }
post_of (Some by) txn = record { txn = txn; authors = by ∷ [] }

-- the transaction writes values below `job`, and takes effect behind those that wait
pub record CanPost (v : KeysValue) (command : Option By) (txn : Txn) : Type 0 where
  pub post : IsPost (post_of command txn)
  pub made : IsSome
      (after_groups scope.Primary (posted v ++ post_of command txn ∷ []) (newest_of v))

-- the manager's command asks nothing of the service, it is fresh, and no transaction that waits is
-- for it
abbrev pub IsNewPost : KeysValue → Setting → Log → Option By → Type 0
IsNewPost v set log None = Unit {0}
IsNewPost v set log (Some by) = (set.asks by ≡ None)
    × IsFreshCommand set log by × (list_any (is_authored by) (posted v) ≡ false)

-- the transactions that landed at an event
abbrev pub groups_in : KvsEvent → List Group
groups_in (event.Landed space number authors groups) = groups
groups_in _ = []

-- the transactions that land at the event are users'
abbrev pub LandsUsers : KvsEvent → Type 0
LandsUsers e = Each (λ group. IsUser group.txn.author) (groups_in e)

-- the manager's transactions that landed at these events, in order
abbrev pub posts_landed : List KvsEvent → List Group
posts_landed events = posts_in (flat_map groups_in events)
