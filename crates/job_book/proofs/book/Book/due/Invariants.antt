use Rattle.std.proofs.Common.{ℕ, take}
use Rattle.std.specs.List.{AllByRecursion as Each}
use Rattle.std.specs.Fn.{FnReturnsAt}
use Rattle.job_deeds.specs.tap.declared.Ask.{Ask}
use Rattle.job_deeds.specs.manager_rules.Deeds.{Deed}
use Rattle.job_deeds.specs.manager_rules.declared.terms.Limits.{Limits}
use Rattle.job_deeds.specs.manager_rules.Due.{MayDo}
use Rattle.job_book.specs.Active.{active_of}
use Rattle.job_deeds.specs.Choices.{SaysAs}
use Rattle.job_book.specs.Contract.{plain}
use Rattle.job_book.specs.Value.{scene_of}
use Rattle.job_book.proofs.book.Book.due.Given as goal

-- nothing is due for the jobs so far
abbrev pub invariant-loop-index : goal.invariant-loop-index
invariant-loop-index g l = (answer : Ask → ℕ) (limits : Limits) → SaysAs (FnReturnsAt g.F.Fn l.initial.tap) answer
    → Each (λ j. (deed : Deed) → MayDo (scene_of (plain l.initial.self) l.initial.now l.initial.asked answer limits) j deed → ⊥) (take l.index (active_of l.initial.self.jobs))
