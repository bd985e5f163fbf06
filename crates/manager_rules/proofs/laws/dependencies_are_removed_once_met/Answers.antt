use Rattle.manager_rules.proofs.Rules.{depends_once_removed, removed_once_met}
use Rattle.manager_rules.proofs.laws.dependencies_are_removed_once_met.Goals as goal

pub returns : goal.returns
returns c = record { removed = removed_once_met; done = depends_once_removed }
