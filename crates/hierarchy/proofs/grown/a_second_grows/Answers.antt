use Rattle.hierarchy.proofs.Growth.{second_grown}
use Rattle.hierarchy.proofs.grown.a_second_grows.Goals as goal

pub returns : goal.returns
returns c = λ set d second on may each. second_grown set d second on may each
