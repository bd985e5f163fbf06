use Rattle.manager_rules.proofs.Reserving.{never_rises}
use Rattle.manager_rules.proofs.laws.reserved_seconds_never_rise.Goals as goal

pub returns : goal.returns
returns c = λ s j deed scene are grant known m head there first other spec second is. never_rises s j deed scene are grant known m head there first other spec second is
