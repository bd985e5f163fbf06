use Rattle.std.proofs.Common.{◌≡◌, ◌≤◌, ◌-◌}
use Rattle.fl_digest.specs.declared.Hash.{Hash}
use Rattle.kvs_model.specs.Store.{Store}
use Rattle.plain_store.specs.Next.{resolved_within}
use Rattle.tree_store.specs.Landing.{table}
use Rattle.tree_store.specs.Shown.{Shows}
use Rattle.tree_store.proofs.walks.resolve.Given as goal

abbrev pub invariant-loop-links : goal.invariant-loop-links
invariant-loop-links l = record {
  bound : l.links ≤ 10;
  same : (hash : Hash) (st : Store) → Shows hash (table l.store) l.initial.opened st → resolved_within st 10 l.path ≡ resolved_within st (10 - l.links) l.here.items;
  shown : (hash : Hash) (st : Store) → Shows hash (table l.store) l.initial.opened st → Shows hash (table l.store) l.opened st;
}

abbrev pub decreases-loop-links : goal.decreases-loop-links
decreases-loop-links l = 10 - l.links
