use Rattle.answers.proofs.JobLogs.{is_instance}
use Rattle.answers.proofs.laws.the_top_instance_is_one.Goals as goal

pub returns : goal.returns
returns c = is_instance
