use Rattle.std.proofs.Common.{◌≡◌, ◌∙◌, Bool, ap, ap₂}
use Rattle.std.proofs.lemmas.Result.{IfOk-weaker}
use Rattle.world.specs.answers.Chronicle.{Setup}
use Rattle.world.specs.manager_rules.declared.terms.Terms.{Terms}
use Rattle.world.specs.Choice.{is_settled as is_settled_order, order_of}
use Rattle.world.specs.declared.order.Schedule.{Schedule}
use Rattle.flux.specs.Runs.{setup_of}
use Rattle.flux.proofs.Orders.{settled_so}
use Rattle.flux.proofs.playing.begun.Goals as goal

pub returns-clause-set : goal.returns-clause-set
returns-clause-set c =
    let o = c.args.options in
    let given : Setup = setup_of c.args.terms o c.args.work in
    IfOk-weaker c.new.result _ (λ world. world.set ≡ setup_of c.args.terms o c.args.work)
    (λ world is. is ∙ ap₂ (λ (t : Terms) (b : Bool). (let s : Setup = record given { settled = b; terms = t } in s)) c.terms_of-terms.ensures
    (ap (λ (how : Schedule). is_settled_order (order_of how)) c.schedule_of.ensures ∙ settled_so o)) c.new.ensures.set
