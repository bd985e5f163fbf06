use Rattle.instance_rules.proofs.Ends.{not_the_top}
use Rattle.instance_rules.proofs.laws.the_top_never_goes.Goals as goal

pub returns : goal.returns
returns c = λ family child numbered may. not_the_top family numbered child may
