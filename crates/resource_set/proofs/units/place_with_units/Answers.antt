use Rattle.std.proofs.Common.{sym, ap, ◌∙◌}
use Rattle.resource_set.specs.declared.node.Node.{Node}
use Rattle.resource_set.specs.Units.{has_ids_of}
use Rattle.resource_set.proofs.Holdings.{only_there, none_so}
use Rattle.resource_set.proofs.units.place_with_units.Goals as goal

pub returns-then-not-has_ids : goal.returns-then-not-has_ids
returns-then-not-has_ids c =
    let whole = c.args.whole.now in
    let part = c.args.part.now in
    let there = c.index-whole-place.result in
    only_there part.host (λ (m : Node). has_ids_of m part) whole c.in-Some.place there c.requires.distinct c.in-Some.ensures.0 (c.in-Some.ensures.1 there)
    ∙ ap (λ (m : Node). has_ids_of m part) (sym c.index-whole-place.is) ∙ sym c.has_ids.ensures ∙ c.if-not-has_ids.true

pub returns-in-None : goal.returns-in-None
returns-in-None c = none_so c.args.part.now.host (λ (m : Node). has_ids_of m c.args.part.now) c.args.whole.now c.in-None.ensures
