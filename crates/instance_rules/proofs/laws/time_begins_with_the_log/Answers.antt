use Rattle.instance_rules.proofs.Feeding.{never_before}
use Rattle.instance_rules.proofs.laws.time_begins_with_the_log.Goals as goal

pub returns : goal.returns
returns c = never_before
