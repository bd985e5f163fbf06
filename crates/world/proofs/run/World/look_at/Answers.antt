use Rattle.std.proofs.Common.{◌≡◌, ◌∙◌, ◌<◌, Some, ap, rules, subst}
use Rattle.world.specs.Looks.{look_at}
use Rattle.world.specs.View.{value_of}
use Rattle.world.specs.declared.run.looking.Looker.{Looker}
use Rattle.world.proofs.Lookers.{broker_within}
use Rattle.world.proofs.run.World.look_at.Goals as goal

pub returns-in-Some-look_of-clause-inside : goal.returns-in-Some-look_of-clause-inside
returns-in-Some-look_of-clause-inside c =
    let v = c.args.self.now in
    let looker : Looker = record { actor = c.args.actor; broker = c.in-Some-look_of.look.broker; need = c.in-Some-look_of.look.need } in
    let open_ : look_at v c.args.actor ≡ Some looker = search rules in
    let sound = c.self.invariant (ap (λ w. w.spent) c.self.view_is ∙ c.requires) in
    let w = value_of c.self.inside in
    subst (λ x. looker.broker < x.set.size) c.self.view_is
    (broker_within w sound c.if-self.false c.args.actor looker (ap (λ x. look_at x c.args.actor) c.self.view_is ∙ open_))
