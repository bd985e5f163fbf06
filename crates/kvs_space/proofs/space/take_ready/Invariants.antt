use Rattle.std.proofs.Common.{◌≡◌, ◌++◌, Some, length}
use Rattle.kvs_model.specs.History.{after_groups}
use Rattle.kvs_space.proofs.space.take_ready.Given as goal

abbrev pub invariant-loop-at : goal.invariant-loop-at
invariant-loop-at l = record {
  queue : l.initial.merger.ready ≡ l.groups ++ l.merger.ready;
  fences : l.merger.fences ≡ l.initial.merger.fences;
  made : after_groups l.scope l.groups l.initial.store ≡ Some l.store;
  left : length l.groups ≡ l.at;
}
