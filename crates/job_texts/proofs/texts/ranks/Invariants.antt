use Rattle.std.proofs.Common.{◌≡◌, map, take}
use Rattle.job_texts.proofs.texts.ranks.Given as goal

abbrev pub invariant-loop-node : goal.invariant-loop-node
invariant-loop-node l = l.ranks.items ≡ map (λ node. node.rank) (take l.node-index l.node-items)
