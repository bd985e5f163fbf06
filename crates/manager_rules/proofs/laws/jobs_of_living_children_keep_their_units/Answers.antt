use Rattle.manager_rules.proofs.Rules.{children_keep_units}
use Rattle.manager_rules.proofs.laws.jobs_of_living_children_keep_their_units.Goals as goal

pub returns : goal.returns
returns c = children_keep_units
