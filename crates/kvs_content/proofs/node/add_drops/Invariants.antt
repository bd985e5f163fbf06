use Rattle.std.proofs.Common.{◌≡◌, ◌++◌, take}
use Rattle.kvs_content.specs.Node.{dropping}
use Rattle.kvs_content.proofs.node.add_drops.Given as goal

abbrev pub invariant-loop-reference : goal.invariant-loop-reference
invariant-loop-reference l = l.events ≡ l.fn.events ++ dropping l.broker (take l.reference-index l.reference-items)
