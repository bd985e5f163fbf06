use Rattle.hierarchy.proofs.Nested.{are_nested}
use Rattle.hierarchy.proofs.laws.children_stay_nested.Goals as goal

pub returns : goal.returns
returns c = λ set d l kept. are_nested set d l kept
