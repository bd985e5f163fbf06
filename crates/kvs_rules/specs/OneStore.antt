-- What is asked of a service none of whose links names a namespace.
use Rattle.std.specs.Prelude.{◌≡◌, Some}
use Rattle.std.specs.List.{AllByRecursion as Each}
use Rattle.kvs_txn.specs.declared.txn.By.{By}
use Rattle.kvs_model.specs.OneStore.{IsOwnOp}
use Rattle.kvs_rules.specs.declared.events.KvsAsk.{KvsAsk}
use Rattle.kvs_rules.specs.declared.events.KvsAsk.TheVariants as ask
use Rattle.kvs_rules.specs.Namespaces.{Request, Setting}

-- no link that is asked for names a namespace
abbrev pub IsOwnAsk : KvsAsk → Type 0
IsOwnAsk (ask.Commit txn) = Each IsOwnOp txn.ops
IsOwnAsk (ask.Fence name count txn) = Each IsOwnOp txn.ops
IsOwnAsk _ = Unit {0}

-- nor one that any command asks for
abbrev pub AsksOwn : Setting → Type 0
AsksOwn set = (by : By) (request : Request)
    → set.asks by ≡ Some request → IsOwnAsk request.ask
