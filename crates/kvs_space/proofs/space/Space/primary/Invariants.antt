use Rattle.std.proofs.Common.{◌≡◌, [], replicate}
use Rattle.kvs_model.specs.History.{first_store}
use Rattle.kvs_space.proofs.space.Space.primary.Given as goal

abbrev pub invariant-loop-broker : goal.invariant-loop-broker
invariant-loop-broker l = record {
  known : l.known.items ≡ replicate l.broker 1;
  stores : l.stores.items ≡ replicate l.broker (first_store l.grant);
  links : l.links.items ≡ replicate l.broker [];
}
