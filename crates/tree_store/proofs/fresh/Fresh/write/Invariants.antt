use Rattle.std.proofs.Common.{◌++◌, [], length}
use Rattle.kvs_model.specs.Store.{Store}
use Rattle.tree_rules.specs.Texts.{blobs}
use Rattle.tree_store.specs.Fresh.{AreNew, AddsSome}
use Rattle.tree_store.specs.Landing.{table}
use Rattle.tree_store.specs.Shown.{Shows}
use Rattle.tree_store.proofs.Turns.{AreLeft}
use Rattle.tree_store.proofs.fresh.Fresh.write.Given as goal

abbrev pub invariant-loop-path : goal.invariant-loop-path
invariant-loop-path l = record {
  apart : AreNew l.store l.self;
  left : (st : Store) → Shows l.hash (table l.store) l.initial.opened st → AreLeft l.hash (table (l.store ++ l.self)) l.opened l.root st;
  only : (st : Store) → Shows l.hash (table l.store) l.initial.opened st → AddsSome l.hash (blobs l.hash st) [] l.self;
}

abbrev pub decreases-loop-path : goal.decreases-loop-path
decreases-loop-path l = length l.opened
