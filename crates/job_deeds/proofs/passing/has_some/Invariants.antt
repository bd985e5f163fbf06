use Rattle.std.proofs.Common.{take}
use Rattle.std.specs.List.{AllByRecursion as Each}
use Rattle.job_deeds.specs.Passing.{FindsRoom}
use Rattle.job_deeds.proofs.passing.has_some.Given as goal

abbrev pub invariant-loop-row : goal.invariant-loop-row
invariant-loop-row l = Each (λ j. FindsRoom l.initial.desk.graph.now l.initial.head j → ⊥) (take l.row-index l.initial.desk.rows.now)
