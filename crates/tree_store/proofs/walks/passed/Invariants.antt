use Rattle.std.proofs.Common.{◌≡◌, ◌≤◌, ◌<◌, ◌-◌, ℕ, length, take, drop}
use Rattle.std.specs.Prelude.{IsSome}
use Rattle.fl_digest.specs.declared.Hash.{Hash}
use Rattle.kvs_model.specs.Store.{Store}
use Rattle.kvs_model.specs.Walk.{stop, stop_from}
use Rattle.tree_store.specs.Landing.{table}
use Rattle.tree_store.specs.Shown.{opened_at, Shows}
use Rattle.tree_store.proofs.walks.passed.Given as goal

abbrev pub invariant-loop-count : goal.invariant-loop-count
invariant-loop-count l = record {
  bound : l.count ≤ length l.path;
  opens : (k : ℕ) → k < l.count → IsSome (opened_at l.opened (take k l.path));
  stop : (hash : Hash) (st : Store) → Shows hash (table l.store) l.initial.opened st → stop st l.path ≡ stop_from st (take l.count l.path) (drop l.count l.path);
  shown : (hash : Hash) (st : Store) → Shows hash (table l.store) l.initial.opened st → Shows hash (table l.store) l.opened st;
}

abbrev pub decreases-loop-count : goal.decreases-loop-count
decreases-loop-count l = length l.path - l.count
