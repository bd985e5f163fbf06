use Rattle.job_rules.proofs.Lying.{within_lies}
use Rattle.job_rules.proofs.laws.hosts_within_others_have_their_units.Goals as goal

pub returns : goal.returns
returns c = within_lies
