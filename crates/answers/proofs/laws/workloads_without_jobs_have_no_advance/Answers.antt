use Rattle.answers.proofs.JobLogs.{no_advance}
use Rattle.answers.proofs.laws.workloads_without_jobs_have_no_advance.Goals as goal

pub returns : goal.returns
returns c set d h = no_advance set h d
