use Rattle.manager_rules.proofs.Rules.{one_takes}
use Rattle.manager_rules.proofs.laws.one_job_at_a_time_takes.Goals as goal

pub returns : goal.returns
returns c = λ s j k r q rising here there m n. one_takes s rising j k r q here there m n
