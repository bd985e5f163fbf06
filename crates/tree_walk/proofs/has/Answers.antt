use Rattle.tree_walk.proofs.Pinning.{has_it, has_not}
use Rattle.tree_walk.proofs.has.Goals as goal

pub returns-clause-there : goal.returns-clause-there
returns-clause-there c = λ t. has_it c.args.references.now c.args.reference.now c.contains.result c.contains.ensures.cases t

pub returns-clause-none : goal.returns-clause-none
returns-clause-none c = λ e has. has_not c.args.references.now c.args.reference.now c.contains.result c.contains.ensures.cases e has
