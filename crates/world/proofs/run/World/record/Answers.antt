use Rattle.std.proofs.Common.{Bool, ap, ◌∙◌}
use Rattle.instance.specs.answers.Chronicle.{Setup}
use Rattle.instance.specs.answers.declared.steps.Step.TheVariants as step
use Rattle.world.specs.Choice.{is_settled}
use Rattle.world.specs.View.{value_of}
use Rattle.world.proofs.Choosing.{behind_settled, reordered}
use Rattle.world.proofs.run.World.record.Goals as goal

pub invariant_of-self : goal.invariant_of-self
invariant_of-self c = λ ready.
    let v = value_of c.self.inside in
    let o = c.advance.new.self in
    let settled : (b : Bool) → Setup = λ b. record v.set { settled = b } in
    reordered v (settled (is_settled o)) o (ap settled (ap is_settled c.advance.ensures ∙ behind_settled (step.Record c.args.actor) c.self.inside.order)) (c.self.invariant ready)
