use Rattle.std.proofs.Common.{◌∙◌, ◌++◌, ◌∷◌, [], ap}
use Rattle.idset.proofs.Sets.{one_range}
use Rattle.idset.proofs.set.IdSet.of_range.Goals as goal

pub returns : goal.returns
returns c = one_range _ c.args.first c.args.last (c.in_ok-push.ensures.items ∙ ap (λ rs. rs ++ record { first = c.args.first; last = c.args.last } ∷ []) c.in_ok-ranges.ensures.items) c.requires.0 c.requires.1
