use Rattle.answers.proofs.JobLogs.{built_instance}
use Rattle.answers.proofs.laws.runs_begun_anew_make_built_instances.Goals as goal

pub returns : goal.returns
returns c = built_instance
