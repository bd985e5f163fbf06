use Rattle.job_rules.proofs.Unique.{minimal}
use Rattle.job_rules.proofs.laws.each_blocker_stands_in_the_way.Goals as goal

pub returns : goal.returns
returns c = minimal
