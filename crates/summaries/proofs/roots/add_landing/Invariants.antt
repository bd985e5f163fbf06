use Rattle.std.proofs.Common.{◌≡◌, ◌++◌, take}
use Rattle.summaries.specs.Roots.{ops_of}
use Rattle.summaries.proofs.roots.add_landing.Given as goal

abbrev pub invariant-loop-group : goal.invariant-loop-group
invariant-loop-group l = (l.group-items ≡ l.groups) × (l.ops ≡ l.fn.ops ++ ops_of (take l.group-index l.group-items))
