use Rattle.hierarchy.proofs.Steps.{made_so}
use Rattle.hierarchy.proofs.growing.what_an_instance_makes_is_legal.Goals as goal

pub returns : goal.returns
returns c = λ set d i own on h legal made early. made_so set i own d on h legal made early
