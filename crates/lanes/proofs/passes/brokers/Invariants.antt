use Rattle.std.proofs.Common.{◌≡◌, ◌<◌, All, length}
use Rattle.lanes.proofs.passes.brokers.Given as goal

abbrev pub invariant-loop-actor : goal.invariant-loop-actor
invariant-loop-actor l = record {
  all : length l.at.items ≡ l.actor-index;
  inside : All (λ rank. rank < l.fn.size) l.at.items;
}
