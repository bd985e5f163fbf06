use Rattle.world.specs.answers.declared.steps.Step.TheVariants as step
use Rattle.lanes.proofs.Going.{goes_by}
use Rattle.lanes.proofs.running.make_one.Goals as goal

pub returns-in_ok-record-clause-goes : goal.returns-in_ok-record-clause-goes
returns-in_ok-record-clause-goes g c =
    let actor = c.in-Some-look_in_lane.look.actor in
    goes_by c.args.running.now.named.world (step.Record actor) c.record.new.self.world c.requires.alone c.in_ok-record.ensures.advances c.in_ok-record.ensures.order (λ _ begins. absurd begins)
