use Rattle.std.proofs.Common.{◌≡◌, drop}
use Rattle.fl_digest.specs.declared.Hash.{Hash}
use Rattle.kvs_model.specs.Operation.{effect, ops_effect}
use Rattle.kvs_model.specs.Store.{Store}
use Rattle.tree_store.specs.Landing.{table}
use Rattle.tree_store.specs.Shown.{Shows}
use Rattle.tree_store.proofs.run.Given as goal

abbrev pub invariant-loop-op : goal.invariant-loop-op
invariant-loop-op l = (hash : Hash) (st : Store) → Shows hash (table l.store) l.initial.opened st
    → (now : Store) × Shows hash (table l.store) l.opened now × (effect st l.txn l.scope ≡ ops_effect l.txn.author l.scope l.number (drop l.op-index l.op-items) now)
