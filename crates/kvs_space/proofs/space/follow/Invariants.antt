use Rattle.std.proofs.Common.{◌≡◌, drop}
use Rattle.kvs_model.specs.History.{after_groups}
use Rattle.kvs_space.proofs.space.follow.Given as goal

abbrev pub invariant-loop-group : goal.invariant-loop-group
invariant-loop-group l = record {
  read : l.group-items ≡ l.groups;
  so_far : after_groups l.scope (drop l.group-index l.groups) l.store ≡ after_groups l.scope l.groups l.initial.store;
}
