use Rattle.std.proofs.Common.{sym, ◌∙◌}
use Rattle.resource_set.proofs.Places.{find-place_of, find-no_place, item_got}
use Rattle.resource_set.specs.Units.{is_named}
use Rattle.resource_set.proofs.units.node_there.Goals as goal

pub returns-in-Some : goal.returns-in-Some
returns-in-Some c =
    item_got c.args.nodes.now c.in-Some.place.now c.get-in-Some.result c.get-in-Some.ensures.lookup
    ∙ sym (find-place_of (is_named c.args.host.now) c.args.nodes.now c.in-Some.place.now (sym (c.requires c.args.host.now) ∙ sym c.in-Some.ensures.value))

pub returns-in-None : goal.returns-in-None
returns-in-None c = sym (find-no_place (is_named c.args.host.now) c.args.nodes.now (sym (c.requires c.args.host.now) ∙ sym c.in-None.ensures.value))
