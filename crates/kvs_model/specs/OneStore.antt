-- A walk in one store none of whose links names a namespace.
use Rattle.std.specs.Prelude.{◌≡◌, Option, Some, None, option_map, Result, ok_or}
use Rattle.std.specs.Option.{option_map_or}
use Rattle.std.specs.List.{AllByRecursion as Each}
use Rattle.kvs_txn.specs.declared.answers.Query.{Query}
use Rattle.kvs_txn.specs.declared.answers.Found.{Found}
use Rattle.kvs_txn.specs.declared.answers.Found.TheVariants as found
use Rattle.kvs_txn.specs.declared.answers.Cause.{Cause}
use Rattle.kvs_txn.specs.declared.answers.Cause.TheVariants as cause
use Rattle.kvs_txn.specs.declared.txn.Op.{Op}
use Rattle.kvs_txn.specs.declared.txn.Op.TheVariants as op
use Rattle.kvs_txn.specs.declared.txn.Group.{Group}
use Rattle.kvs_txn.specs.declared.words.Target.{Target}
use Rattle.kvs_model.specs.Store.{Path, Link, Store, node_at}
use Rattle.kvs_model.specs.Walk.{follow, found_in, most_links, next_link, past_inner_link}

-- no link names a namespace
abbrev pub HasOwnLinks : Store → Type 0
HasOwnLinks st = (path : Path) (target : Target) → node_at st path ≡ Some (Link target)
    → target.namespace ≡ None

-- nor does one that an operation makes
abbrev pub IsOwnOp : Op → Type 0
IsOwnOp (op.Link path target) = target.namespace ≡ None
IsOwnOp _ = Unit {0}

abbrev pub AreOwn : Group → Type 0
AreOwn group = Each IsOwnOp group.txn.ops

-- the path behind the first link that a query follows
abbrev pub own_next : Query → Store → Path → Option Path
own_next asked st path = option_map (λ target. target.path) (next_link asked st path)

-- the path at which a query's walk ends
abbrev pub own_end : Store → Query → Path → Option Path
own_end st asked path = follow (own_next asked st) most_links path

-- what a reader finds
unfoldable pub own_walk : Store → Query → Path → Found
own_walk st asked path = option_map_or (found_in st asked) (own_end st asked path) found.Loop

-- where an operation works
unfoldable pub own_resolved : Store → Path → Result Path Cause
own_resolved st path = ok_or
    (follow (λ at. option_map (λ target. target.path) (past_inner_link st at)) most_links path)
    cause.Loop
