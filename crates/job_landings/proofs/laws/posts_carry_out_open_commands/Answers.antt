use Rattle.job_landings.proofs.Open.{event_open, submit_open}
use Rattle.job_landings.proofs.laws.posts_carry_out_open_commands.Goals as goal

pub returns-clause-submits : goal.returns-clause-submits
returns-clause-submits c = λ v inst log jobs x h due. submit_open v inst log jobs h x due

pub returns-clause-does : goal.returns-clause-does
returns-clause-does c = λ v inst log jobs due by h d e. event_open v inst log jobs h due by d e
