use Rattle.std.proofs.Common.{◌∙◌, sym, ap}
use Rattle.idset.specs.Ids.{has}
use Rattle.idset.specs.Ranges.{are_in}
use Rattle.idset.proofs.Sets.{has-ids_in}
use Rattle.idset.proofs.set.IdSet.has.Goals as goal

pub returns : goal.returns
returns c = c.has_in.ensures ∙ ap (λ rs. are_in rs c.args.id) c.deref.ensures.value ∙ sym (has-ids_in c.self.inside.ranges.items c.args.id c.self.invariant) ∙ ap (λ ids. has ids c.args.id) c.self.view_is
