use Rattle.hierarchy.proofs.Growth.{ends_grown}
use Rattle.hierarchy.proofs.grown.ends_grow.Goals as goal

pub returns : goal.returns
returns c = λ set d inner child parent job shut on inside grounds follows. ends_grown set d inner child parent job shut on inside grounds follows
