use Rattle.std.proofs.Common.{◌≡◌, ◌≤◌, ◌-◌, [], length, take, drop}
use Rattle.fl_digest.specs.declared.Hash.{Hash}
use Rattle.kvs_model.specs.Operation.{enters_full_from}
use Rattle.kvs_model.specs.Store.{Store}
use Rattle.tree_rules.specs.Held.{Table}
use Rattle.tree_store.specs.Shown.{Shows, OpensAbove}
use Rattle.tree_store.proofs.operations.enters_full.Given as goal

abbrev pub invariant-loop-count : goal.invariant-loop-count
invariant-loop-count l = record {
  bound : l.count ≤ length l.at;
  rest : (hash : Hash) (held : Table) (st : Store) → Shows hash held l.opened st → OpensAbove l.opened st l.at
      → enters_full_from st [] l.at ≡ enters_full_from st (take l.count l.at) (drop l.count l.at);
}

abbrev pub decreases-loop-count : goal.decreases-loop-count
decreases-loop-count l = length l.at - l.count
