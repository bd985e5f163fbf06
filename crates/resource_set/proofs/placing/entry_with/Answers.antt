use Rattle.std.proofs.Common.{sym, ◌∙◌}
use Rattle.resource_set.specs.Reading.{has_rank}
use Rattle.resource_set.proofs.Places.{find-place_of, find-no_place, item_got}
use Rattle.resource_set.proofs.placing.entry_with.Goals as goal

pub returns-in-Some : goal.returns-in-Some
returns-in-Some c =
    item_got c.args.entries.now c.in-Some.place.now c.get-in-Some.result c.get-in-Some.ensures.lookup ∙ sym (find-place_of (has_rank c.args.rank) c.args.entries.now c.in-Some.place.now (sym (c.requires c.args.rank) ∙ sym c.in-Some.ensures.value))

pub returns-in-None : goal.returns-in-None
returns-in-None c = sym (find-no_place (has_rank c.args.rank) c.args.entries.now (sym (c.requires c.args.rank) ∙ sym c.in-None.ensures.value))
