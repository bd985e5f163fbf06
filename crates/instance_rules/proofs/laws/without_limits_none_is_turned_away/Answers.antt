use Rattle.instance_rules.proofs.Feeding.{none_checked}
use Rattle.instance_rules.proofs.laws.without_limits_none_is_turned_away.Goals as goal

pub returns : goal.returns
returns c = none_checked
