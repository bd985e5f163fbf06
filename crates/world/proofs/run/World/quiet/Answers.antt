use Rattle.std.proofs.Common.{◌≡◌, ◌∙◌, ap, subst}
use Rattle.instance.specs.answers.Whole.{has_ended}
use Rattle.world.specs.View.{value_of}
use Rattle.world.proofs.Going.{ended_so}
use Rattle.world.proofs.run.World.quiet.Goals as goal

pub returns-clause-exact : goal.returns-clause-exact
returns-clause-exact c =
    let v = value_of c.self.inside in
    subst (λ x. v.closed ≡ has_ended x.chronicle) c.self.view_is (ended_so v (c.self.invariant (ap (λ v. v.spent) c.self.view_is ∙ c.requires)))
