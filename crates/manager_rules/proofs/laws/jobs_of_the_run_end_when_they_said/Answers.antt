use Rattle.manager_rules.proofs.Plain.{ends_then, none_restarts}
use Rattle.manager_rules.proofs.laws.jobs_of_the_run_end_when_they_said.Goals as goal

pub returns : goal.returns
returns c = record { begun = none_restarts; ends = ends_then }
