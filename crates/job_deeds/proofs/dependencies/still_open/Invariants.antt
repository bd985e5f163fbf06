use Rattle.std.proofs.Common.{◌≡◌, take, not, ◌&&◌}
use Rattle.std.specs.Prelude.{filter}
use Rattle.manager_rules.specs.Dependencies.{is_added, is_removed}
use Rattle.job_deeds.proofs.dependencies.still_open.Given as goal

abbrev pub invariant-loop-need : goal.invariant-loop-need
invariant-loop-need l = l.needs ≡ filter (λ need. is_added l.initial.row need && not (is_removed l.initial.row need)) (take l.need-index l.need-items)
