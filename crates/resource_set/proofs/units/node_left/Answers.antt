use Rattle.std.proofs.Common.{◌≡◌, sym, subst}
use Rattle.std.specs.Prelude.{IfOk}
use Rattle.resource_set.proofs.Holdings.{left_here, left_whole}
use Rattle.resource_set.proofs.units.node_left.Goals as goal

pub returns-in-Some : goal.returns-in-Some
returns-in-Some c = subst (λ l. IfOk c.node_without.result (λ left. left ≡ l)) (left_here c.args.taken.now c.args.node.now c.in-Some.there.now c.requires.distinct (sym c.in-Some.ensures)) c.node_without.ensures

pub returns-in-None : goal.returns-in-None
returns-in-None c = subst (λ l. IfOk c.copy.result (λ left. left ≡ l)) (left_whole c.args.taken.now c.args.node.now (sym c.in-None.ensures)) c.copy.ensures
