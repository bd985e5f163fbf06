use Rattle.std.proofs.Common.{◌≡◌, take}
use Rattle.child_grant.specs.Child.{numbered}
use Rattle.child_grant.proofs.child.Given as goal

abbrev pub invariant-loop-node : goal.invariant-loop-node
invariant-loop-node l = record {
  granted : l.nodes ≡ numbered 0 (take l.node-index l.fn.r.nodes);
  counted : l.rank ≡ l.node-index;
}
