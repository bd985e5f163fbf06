use Rattle.job_rules.proofs.Unique.{one_list}
use Rattle.job_rules.proofs.laws.blockers_are_one_list.Goals as goal

pub returns : goal.returns
returns c = one_list
