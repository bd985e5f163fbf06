-- The landings of `primary` that a core has made.
use Rattle.std.specs.Prelude.{List}
use Rattle.kvs_txn.specs.declared.txn.Group.{Group}
use Rattle.kvs_rules.specs.declared.events.KvsEvent.{KvsEvent}
use Rattle.kvs_keys.specs.Histories as keys
use Rattle.kvs_core.specs.Value.{CoreValue}

-- the landings of `primary` so far, each its transactions
abbrev pub history_of : CoreValue → List (List Group)
history_of v = keys.history_of v.keys

-- the landings are those that were made before, and those that these events tell; the job manager's
-- are all in `primary`, and the grant and the tree of brokers are the same
abbrev pub Extends : CoreValue → CoreValue → List KvsEvent → Type 0
Extends old new events = keys.Extends old.keys new.keys events
