use Rattle.std.proofs.Common.{Contains}
use Rattle.instance_rules.specs.Family.{HasTarget, OfLiving}
use Rattle.job_commands.specs.Agrees.{AgreesCommands}
use Rattle.job_commands.specs.Desks.{desk_of}
use Rattle.manager_rules.specs.Times.{IsIdle, seconds_ahead}
use Rattle.job_clock.specs.Standing.{StandsWith}
use Rattle.job_clock.specs.Targets.{targets_of}
use Rattle.job_clock.proofs.Standing.{at_living, end_known, end_there, has_known, has_there, of_desk}
use Rattle.job_clock.proofs.laws.living_instances_have_these_seconds.Goals as goal

pub returns-clause-targets : goal.returns-clause-targets
returns-clause-targets c = λ v inst log l target lives h.
    at_living l inst log lives (λ i g. AgreesCommands v i g → (HasTarget l target → Contains (targets_of v) target) × (Contains (targets_of v) target → HasTarget l target))
    (λ a. (has_known v l a target, has_there v l a target)) h

pub returns-clause-ends : goal.returns-clause-ends
returns-clause-ends c = λ v jobs inst log l second lives h.
    at_living l inst log lives (λ i g. StandsWith v jobs i g
    → (OfLiving l (λ desk. Contains (seconds_ahead desk.scene) second) → Contains (seconds_ahead (desk_of v i g jobs).scene) second)
    × (Contains (seconds_ahead (desk_of v i g jobs).scene) second → OfLiving l (λ desk. Contains (seconds_ahead desk.scene) second)))
    (λ s. (end_known v jobs l.inst l.log s second, end_there v jobs l.inst l.log s second)) h

pub returns-clause-idle : goal.returns-clause-idle
returns-clause-idle c = λ v jobs inst log l lives h idle.
    at_living l inst log lives (λ i g. StandsWith v jobs i g → IsIdle (desk_of v i g jobs) → OfLiving l IsIdle)
    (λ s at_rest. of_desk v jobs l.inst l.log s IsIdle at_rest) h idle
