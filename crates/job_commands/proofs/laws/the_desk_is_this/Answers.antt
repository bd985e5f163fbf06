use Rattle.job_commands.proofs.Desks.{desk_is}
use Rattle.job_commands.proofs.laws.the_desk_is_this.Goals as goal

pub returns : goal.returns
returns c = λ v inst log st jobs h valid are. desk_is v inst log h valid st jobs are
