use Rattle.std.proofs.Common.{refl}
use Rattle.job_commands.proofs.Steps.{beside_agrees, shutdown_agrees, tick_beside}
use Rattle.instance_rules.specs.Log.{Ticked}
use Rattle.job_commands.proofs.laws.other_moments_leave_commands.Goals as goal

pub returns-clause-ticks : goal.returns-clause-ticks
returns-clause-ticks c = λ v inst log second h. beside_agrees v inst log (Ticked second) (tick_beside inst second) (λ job. refl) h

pub returns-clause-others : goal.returns-clause-others
returns-clause-others c = λ v inst log m beside leaves h. beside_agrees v inst log m beside leaves h

pub returns-clause-shutdowns : goal.returns-clause-shutdowns
returns-clause-shutdowns c = λ v inst log by asks h. shutdown_agrees v inst log by asks h
