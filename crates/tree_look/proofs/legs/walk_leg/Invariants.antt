use Rattle.fl_digest.specs.declared.Hash.{Hash}
use Rattle.kvs_model.specs.Store.{Store}
use Rattle.tree_look.specs.Looks.{Reads}
use Rattle.tree_look.proofs.Passing.{OnWay}
use Rattle.tree_look.proofs.legs.walk_leg.Given as goal

abbrev pub invariant-loop-index : goal.invariant-loop-index
invariant-loop-index g l = (hash : Hash) (st : Store) → Reads hash st l.root (g.T.Texts.seen l.texts) → OnWay hash st l.path (g.T.Texts.seen l.texts) l.initial.passed.items l.passed.items l.index l.reference
