use Rattle.std.proofs.Common.{◌∙◌, ap, sym}
use Rattle.instance.specs.services.Order.{possible, possible_losses}
use Rattle.instance.specs.kvs_keys.Walk.{nth}
use Rattle.instance.specs.answers.declared.steps.Step.TheVariants as step
use Rattle.instance.specs.Order.{answers, feeds}
use Rattle.world.specs.Order.{steps_in}
use Rattle.world.proofs.Numbering.{mapped, unmapped}
use Rattle.world.proofs.run.World.nth_in.Goals as goal

pub returns-in-Ok : goal.returns-in-Ok
returns-in-Ok c =
    let v = c.args.self.now in
    let h = c.args.home.now in
    sym (ap (λ k. nth (steps_in v k c.args.instance h) c.args.number) c.in-Turn.is
    ∙ mapped (step.Kvs c.args.instance) (possible h.instance.services) c.args.number c.in-Ok.step (sym c.in-Ok.ensures.value))

pub returns-in-Err : goal.returns-in-Err
returns-in-Err c =
    let v = c.args.self.now in
    let h = c.args.home.now in
    sym (ap (λ k. nth (steps_in v k c.args.instance h) c.args.number) c.in-Turn.is
    ∙ unmapped (step.Kvs c.args.instance) (possible h.instance.services) c.args.number c.in-Err.left (sym c.in-Err.ensures.value))

pub returns-in-Ok-nth_feed : goal.returns-in-Ok-nth_feed
returns-in-Ok-nth_feed c =
    let v = c.args.self.now in
    let h = c.args.home.now in
    sym (ap (λ k. nth (steps_in v k c.args.instance h) c.args.number) c.in-Feed.is
    ∙ mapped step.Feed (feeds h.instance) c.args.number c.in-Ok-nth_feed.actor (sym c.in-Ok-nth_feed.ensures.value))

pub returns-in-Err-nth_feed : goal.returns-in-Err-nth_feed
returns-in-Err-nth_feed c =
    let v = c.args.self.now in
    let h = c.args.home.now in
    sym (ap (λ k. nth (steps_in v k c.args.instance h) c.args.number) c.in-Feed.is
    ∙ unmapped step.Feed (feeds h.instance) c.args.number c.in-Err-nth_feed.left (sym c.in-Err-nth_feed.ensures.value))

pub returns-in-Ok-nth_answer : goal.returns-in-Ok-nth_answer
returns-in-Ok-nth_answer c =
    let v = c.args.self.now in
    let h = c.args.home.now in
    sym (ap (λ k. nth (steps_in v k c.args.instance h) c.args.number) c.in-Reply.is
    ∙ mapped step.Answer (answers h.instance) c.args.number c.in-Ok-nth_answer.actor (sym c.in-Ok-nth_answer.ensures.value))

pub returns-in-Err-nth_answer : goal.returns-in-Err-nth_answer
returns-in-Err-nth_answer c =
    let v = c.args.self.now in
    let h = c.args.home.now in
    sym (ap (λ k. nth (steps_in v k c.args.instance h) c.args.number) c.in-Reply.is
    ∙ unmapped step.Answer (answers h.instance) c.args.number c.in-Err-nth_answer.left (sym c.in-Err-nth_answer.ensures.value))

pub returns-in-Ok-nth_loss : goal.returns-in-Ok-nth_loss
returns-in-Ok-nth_loss c =
    let v = c.args.self.now in
    let h = c.args.home.now in
    sym (ap (λ k. nth (steps_in v k c.args.instance h) c.args.number) c.in-Loss.is
    ∙ mapped (step.Kvs c.args.instance) (possible_losses h.instance.services) c.args.number c.in-Ok-nth_loss.step (sym c.in-Ok-nth_loss.ensures.value))

pub returns-in-Err-nth_loss : goal.returns-in-Err-nth_loss
returns-in-Err-nth_loss c =
    let v = c.args.self.now in
    let h = c.args.home.now in
    sym (ap (λ k. nth (steps_in v k c.args.instance h) c.args.number) c.in-Loss.is
    ∙ unmapped (step.Kvs c.args.instance) (possible_losses h.instance.services) c.args.number c.in-Err-nth_loss.left (sym c.in-Err-nth_loss.ensures.value))
