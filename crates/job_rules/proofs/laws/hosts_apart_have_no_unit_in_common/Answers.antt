use Rattle.job_rules.proofs.Lying.{apart_units, units_apart}
use Rattle.job_rules.proofs.laws.hosts_apart_have_no_unit_in_common.Goals as goal

pub returns : goal.returns
returns c = λ a b. (apart_units a b, units_apart a b)
