use Rattle.job_rules.proofs.Lying.{read_is}
use Rattle.job_rules.proofs.laws.jobspecs_that_are_read_are_some.Goals as goal

pub returns : goal.returns
returns c = read_is
