use Rattle.std.proofs.Common.{◌≡◌, [], replicate}
use Rattle.kvs_model.specs.Store.{empty_store}
use Rattle.kvs_space.proofs.space.Space.opened.Given as goal

abbrev pub invariant-loop-broker : goal.invariant-loop-broker
invariant-loop-broker l = record {
  known : l.known.items ≡ replicate l.broker 0;
  stores : l.stores.items ≡ replicate l.broker empty_store;
  links : l.links.items ≡ replicate l.broker [];
}
