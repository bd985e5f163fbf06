use Rattle.job_commands.proofs.Desks.{opens_now}
use Rattle.job_commands.proofs.laws.open_commands_are_open_now.Goals as goal

pub returns : goal.returns
returns c = λ inst log by open_is. opens_now inst log by open_is
