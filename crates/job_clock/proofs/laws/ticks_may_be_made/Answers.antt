use Rattle.std.proofs.Common.{[], ◌∷◌}
use Rattle.instance_rules.specs.Family.{MayTick}
use Rattle.instance_rules.specs.Log.{now_of}
use Rattle.job_commands.specs.Desks.{desk_of}
use Rattle.manager_rules.specs.Times.{IsIdle, seconds_ahead}
use Rattle.job_clock.specs.Standing.{StandsWith}
use Rattle.job_clock.specs.Targets.{IsNextTick, targets_of}
use Rattle.job_clock.proofs.Standing.{at_top, may_tick, pass_legal, tick_legal}
use Rattle.job_clock.proofs.laws.ticks_may_be_made.Goals as goal

pub returns-clause-passes : goal.returns-clause-passes
returns-clause-passes c = λ v jobs inst log second h idle passes. pass_legal v jobs inst log h second idle passes

pub returns-clause-legal : goal.returns-clause-legal
returns-clause-legal c = λ v jobs inst log second h idle next. tick_legal v jobs inst log h second idle next

pub returns-clause-may : goal.returns-clause-may
returns-clause-may c = λ v jobs inst log l second top h idle next.
    at_top l inst log top (λ i g. StandsWith v jobs i g → IsIdle (desk_of v i g jobs) → IsNextTick (targets_of v) (seconds_ahead (desk_of v i g jobs).scene) (now_of i g) second → MayTick (l ∷ []) (now_of i g) [] second)
    (λ s at_rest first. may_tick v jobs l top.from s second at_rest first) h idle next
