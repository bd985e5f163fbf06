use Rattle.std.proofs.Common.{◌∙◌}
use Rattle.run_picture.proofs.Drawn.{units_added}
use Rattle.run_picture.proofs.Keeping.{done_more}
use Rattle.run_picture.proofs.drawing.add_places.Goals as goal

pub returns-in_ok-add_units-in-Units : goal.returns-in_ok-add_units-in-Units
returns-in_ok-add_units-in-Units c = done_more _ _ c.add_units-in-Units.result (λ added.
    units_added c.args.rows c.args.node.now c.args.places.now c.add_units.new.places c.add_units-in-Units.new.places c.deref.result.now c.deref-in-Units.result.now c.in-Units.is
    (c.deref.ensures.value ∙ c.in_ok-cores-in-Units.ensures.ids) (c.deref-in-Units.ensures.value ∙ c.in_ok-gpus-in-Units.ensures.ids)
    c.in_ok-add_units-in-Units.ensures added) c.add_units-in-Units.ensures
