use Rattle.job_commands.proofs.Desks.{opens_at_issue}
use Rattle.job_commands.proofs.laws.open_commands_are_open_at_their_issue.Goals as goal

pub returns : goal.returns
returns c = λ inst log by open_is. opens_at_issue inst log by open_is
