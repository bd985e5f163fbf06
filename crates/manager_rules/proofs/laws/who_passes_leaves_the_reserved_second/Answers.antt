use Rattle.manager_rules.proofs.Reserving.{leaves_second}
use Rattle.manager_rules.proofs.laws.who_passes_leaves_the_reserved_second.Goals as goal

pub returns : goal.returns
returns c = λ s j r scene are known m head there first other. leaves_second s scene are j r known m head there first other
