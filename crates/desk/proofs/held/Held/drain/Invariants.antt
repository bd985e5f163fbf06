use Rattle.std.proofs.Common.{◌≡◌}
use mathlib.Core.List.{IsPrefix}
use Rattle.desk.proofs.held.Held.drain.Given as goal

abbrev pub invariant-loop : goal.invariant-loop
invariant-loop g l = IsPrefix l.fn.self.steps l.self.steps × (l.self.spent ≡ l.fn.self.spent)
