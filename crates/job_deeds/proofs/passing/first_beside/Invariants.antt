use Rattle.std.proofs.Common.{◌≡◌, take}
use Rattle.std.specs.List.{AllByRecursion as Each}
use Rattle.manager_rules.specs.Scene.{Scene}
use Rattle.job_deeds.specs.Choices.{IsSeen}
use Rattle.job_deeds.specs.Passing.{IsFirstLeaving, IsRefused}
use Rattle.job_deeds.proofs.passing.first_beside.Given as goal

abbrev pub invariant-loop-row : goal.invariant-loop-row
invariant-loop-row l = record {
  same : l.reserved ≡ l.fn.reserved;
  first : (s : Scene) → IsSeen l.initial.desk s → IsFirstLeaving s l.initial.head (take l.row-index l.initial.desk.rows.now) l.most l.first;
  refused : (s : Scene) → IsSeen l.initial.desk s → Each (IsRefused s l.initial.head) l.refused.items;
}
