use Rattle.instance_rules.proofs.Refusing.{fault_or_job, fault_or_limit, limit_or_job}
use Rattle.instance_rules.proofs.laws.refused_submissions_are_told_one_thing.Goals as goal

pub returns : goal.returns
returns c = record { faults = fault_or_limit; limits = limit_or_job; jobs = fault_or_job }
