use Rattle.std.proofs.Common.{◌≡◌, List, ◌++◌, take}
use Rattle.job_spec.specs.declared.spec.Depend.{Depend}
use Rattle.manager_rules.specs.Jobs.{distinct}
use Rattle.job_texts.proofs.needs.add.Given as goal

abbrev pub invariant-loop-need : goal.invariant-loop-need
invariant-loop-need l = (all : List Depend) → l.initial.needs ≡ distinct all → l.needs ≡ distinct (all ++ take l.need-index l.more)
