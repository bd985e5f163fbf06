use Rattle.hierarchy.proofs.Growth.{own_grown}
use Rattle.hierarchy.proofs.grown.an_instance_grows.Goals as goal

pub returns : goal.returns
returns c = λ set d i own on h legal made early. own_grown set d i own on h legal made early
