use Rattle.std.proofs.Common.{◌∙◌, ap}
use Rattle.idset.specs.Ranges.{ids_in}
use Rattle.idset.proofs.Sets.{ids_in-singles, singles}
use Rattle.idset.proofs.set.IdSet.of_ids.Goals as goal

pub of_ranges-requires : goal.of_ranges-requires
of_ranges-requires c = rw c.in_ok-ranges.ensures (singles c.args.ids.now c.requires)

pub returns : goal.returns
returns c = c.in_ok-set.ensures ∙ ap ids_in c.in_ok-ranges.ensures ∙ ids_in-singles c.args.ids.now
