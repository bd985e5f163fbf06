use Rattle.std.proofs.Common.{◌≡◌, take, not, None}
use Rattle.std.specs.Prelude.{find}
use Rattle.manager_rules.specs.Dependencies.{is_added}
use Rattle.job_deeds.proofs.dependencies.first_new.Given as goal

abbrev pub invariant-loop-need : goal.invariant-loop-need
invariant-loop-need l = find (λ need. not (is_added l.initial.row need)) (take l.need-index l.need-items) ≡ None
