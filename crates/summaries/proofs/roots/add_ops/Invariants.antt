use Rattle.std.proofs.Common.{◌≡◌, ◌++◌, take}
use Rattle.summaries.proofs.roots.add_ops.Given as goal

abbrev pub invariant-loop-op : goal.invariant-loop-op
invariant-loop-op l = (l.op-items ≡ l.more) × (l.ops ≡ l.fn.ops ++ take l.op-index l.op-items)
