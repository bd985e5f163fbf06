use Rattle.job_rules.proofs.Lying.{never_first}
use Rattle.job_rules.proofs.laws.what_never_fits_gets_nothing.Goals as goal

pub returns : goal.returns
returns c = never_first
