use Rattle.hierarchy.proofs.Resting.{all_rest}
use Rattle.hierarchy.proofs.closing.a_run_rests_with_its_instances.Goals as goal

pub returns : goal.returns
returns c = λ set d on settled lost stays. all_rest set d on settled lost stays
