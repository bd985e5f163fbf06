use Rattle.manager_rules.proofs.Plain.{none_away, none_exceeds}
use Rattle.manager_rules.proofs.laws.nobody_is_turned_away_without_limits.Goals as goal

pub returns : goal.returns
returns c = record { all = none_away; each = none_exceeds }
