use Rattle.hierarchy.proofs.Growth.{birth_grown}
use Rattle.hierarchy.proofs.grown.a_birth_grows.Goals as goal

pub returns : goal.returns
returns c = λ set d b on l follows new. birth_grown set d b on l follows new
