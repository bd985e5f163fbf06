use Rattle.tree_store.proofs.Keyed.{before_last, sorted_keyed}
use Rattle.std.proofs.lemmas.Option.{IfSome_then}
use Rattle.tree_store.proofs.opened.Opened.pop.Goals as goal

pub returns-clause-last : goal.returns-clause-last
returns-clause-last c =
    IfSome_then c.pop_last.result c.pop_last.ensures.all_below (λ last below. before_last c.pop_last.new.self.entries last.0 below)

pub returns-clause-order : goal.returns-clause-order
returns-clause-order c = sorted_keyed c.pop_last.new.self.entries c.pop_last.ensures.ordered
