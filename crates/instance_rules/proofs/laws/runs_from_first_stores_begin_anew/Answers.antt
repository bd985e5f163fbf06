use Rattle.instance_rules.proofs.Feeding.{none_old, time_begins}
use Rattle.instance_rules.proofs.laws.runs_from_first_stores_begin_anew.Goals as goal

pub returns : goal.returns
returns c = record { old = none_old; time = time_begins }
