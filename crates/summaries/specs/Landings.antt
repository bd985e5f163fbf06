-- The landings of `primary` in a chronicle.
use Rattle.std.specs.Prelude.{◌==◌, ◌&&◌, List, Option, Some, None, length, not, if◌then◌else◌}
use Rattle.kvs_txn.specs.declared.txn.Group.{Group}
use Rattle.kvs_rules.specs.Namespaces.{is_primary}
use Rattle.answers.specs.Chronicle.{top}
use Rattle.answers.specs.declared.chronicle.Entry.{Entry}
use Rattle.answers.specs.declared.chronicle.Entry.TheVariants as entry

-- the transactions that land by an entry in the top instance's `primary`, if it is such a landing
abbrev pub groups_landed_by : Entry → Option (List Group)
groups_landed_by (entry.Landed instance space number authors groups) =
    if (instance == top) && is_primary space && not (length groups == 0) then Some groups else None
groups_landed_by _ = None
