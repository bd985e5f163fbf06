use Rattle.hierarchy.proofs.Homes.{all_idle}
use Rattle.hierarchy.proofs.family.a_family_is_idle_with_its_instances.Goals as goal

pub returns : goal.returns
returns c = λ set d idle stays. all_idle set d idle stays
