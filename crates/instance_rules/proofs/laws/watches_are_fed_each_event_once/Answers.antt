use Rattle.instance_rules.proofs.Feeding.{fed_all}
use Rattle.instance_rules.proofs.laws.watches_are_fed_each_event_once.Goals as goal

pub returns : goal.returns
returns c = fed_all
