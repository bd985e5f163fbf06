use Rattle.std.proofs.Common.{◌∙◌, ap, subst}
use Rattle.hierarchy.specs.Heard.{HearUpwards}
use Rattle.world.specs.View.{value_of}
use Rattle.world.proofs.run.World.chronicle.Goals as goal

pub returns-clause-hears : goal.returns-clause-hears
returns-clause-hears c =
    let v = value_of c.self.inside in
    let sound = c.self.invariant (ap (λ w. w.spent) c.self.view_is ∙ c.requires) in
    subst (λ w. HearUpwards w.set.size w.chronicle) c.self.view_is (c.hearings_rise.ensures.rises v.set v.chronicle sound.legal)
