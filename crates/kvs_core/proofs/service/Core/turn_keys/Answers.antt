use Rattle.std.proofs.Common.{◌∙◌, ap, subst}
use Rattle.kvs_core.specs.Makes.{Makes}
use Rattle.kvs_core.specs.View.{IsFit, value_of}
use Rattle.kvs_core.proofs.Turning.{keys-fit, keys-make, with_keys}
use Rattle.kvs_core.proofs.service.Core.turn_keys.Goals as goal

pub invariant_of-self-2 : goal.invariant_of-self-2
invariant_of-self-2 c = λ _.
    let v = value_of c.self.inside in
    let fit : IsFit v = c.self.invariant (ap (λ v. v.spent) c.self.view_is ∙ c.requires.ready) in
    let makes = c.in_ok-events.ensures.makes in
    keys-fit v fit c.turn.new.self makes.ready makes.size makes.extends.fanout

pub returns-clause-makes : goal.returns-clause-makes
returns-clause-makes c =
    let v = value_of c.self.inside in
    subst (λ w. Makes c.args.step w (with_keys v c.turn.new.self) c.in_ok-events.events) c.self.view_is
    (keys-make v c.others_leave_the_contents.ensures.all c.turn.new.self c.args.step c.in_ok-events.events c.in_ok-events.ensures.makes)
