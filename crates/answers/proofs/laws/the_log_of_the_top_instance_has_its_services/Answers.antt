use Rattle.answers.proofs.JobLogs.{service_kept}
use Rattle.answers.proofs.laws.the_log_of_the_top_instance_has_its_services.Goals as goal

pub returns : goal.returns
returns c = service_kept
