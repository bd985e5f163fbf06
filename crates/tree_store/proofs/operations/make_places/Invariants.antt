use Rattle.std.proofs.Common.{length, ◌-◌, ◌≤◌}
use Rattle.fl_digest.specs.declared.Hash.{Hash}
use Rattle.kvs_model.specs.Store.{Store}
use Rattle.tree_rules.specs.Held.{Table}
use Rattle.tree_store.specs.Shown.{Shows, OpensAbove}
use Rattle.plain_store.proofs.Placing.{upto}
use Rattle.tree_store.proofs.operations.make_places.Given as goal

abbrev pub invariant-loop-count : goal.invariant-loop-count
invariant-loop-count l = record {
  low : 1 ≤ l.count;
  shown : (hash : Hash) (held : Table) (st : Store) → Shows hash held l.initial.opened st → OpensAbove l.initial.opened st l.at → Shows hash held l.opened (upto st l.at l.count);
  opens : (hash : Hash) (held : Table) (st : Store) → Shows hash held l.initial.opened st → OpensAbove l.initial.opened st l.at → OpensAbove l.opened (upto st l.at l.count) l.at;
}

abbrev pub decreases-loop-count : goal.decreases-loop-count
decreases-loop-count l = length l.at - l.count
