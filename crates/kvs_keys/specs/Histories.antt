-- The landings of `primary`: those that a service of keys has made, and those that events tell.
use Rattle.std.specs.Prelude.{◌≡◌, List, [], ◌++◌, Option, Some, None, filter_map, flat_map, slice_get, if◌then◌else◌}
use Rattle.std.specs.Option.{option_map_or}
use Rattle.kvs_txn.specs.declared.txn.Group.{Group}
use Rattle.kvs_rules.specs.declared.events.KvsEvent.{KvsEvent}
use Rattle.kvs_rules.specs.declared.events.KvsEvent.TheVariants as event
use Rattle.kvs_rules.specs.Namespaces.{is_primary}
use Rattle.store_laws.specs.Posts.{posts_in}
use Rattle.kvs_keys.specs.Posted.{posts_landed}
use Rattle.kvs_keys.specs.Value.{KeysValue}

-- the landings of `primary` so far, each its transactions
abbrev pub history_of : KeysValue → List (List Group)
history_of v = option_map_or (λ s. s.history) (slice_get v.spaces 0) []

-- the transactions of a landing in `primary`, if the event is one
abbrev pub landing_in : KvsEvent → Option (List Group)
landing_in (event.Landed space number authors groups) =
    if is_primary space then Some groups else None
landing_in _ = None

-- the landings in `primary` among events
abbrev pub landings_in : List KvsEvent → List (List Group)
landings_in events = filter_map landing_in events

-- the landings are those that were made before, and those that these events tell; the job manager's
-- are all in `primary`, and the grant and the tree of brokers are the same
pub record Extends (old new : KeysValue) (events : List KvsEvent) : Type 0 where
  pub history : history_of new ≡ history_of old ++ landings_in events
  pub inside : posts_landed events ≡ posts_in (flat_map (λ groups. groups) (landings_in events))
  pub grant : new.grant ≡ old.grant
  pub fanout : new.fanout ≡ old.fanout
