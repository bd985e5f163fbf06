use Rattle.std.proofs.Common.{◌∙◌, ap, append-nil, subst}
use Rattle.kvs_keys.specs.Posted.{posted}
use Rattle.kvs_core.specs.Histories.{Extends}
use Rattle.kvs_core.specs.Requests.{AgreesOnce}
use Rattle.kvs_core.specs.View.{IsFit, value_of}
use Rattle.kvs_core.proofs.Turning.{keys-asked, keys-fit, with_keys}
use Rattle.kvs_core.proofs.service.Core.ask_keys.Goals as goal

pub invariant_of-self-2 : goal.invariant_of-self-2
invariant_of-self-2 c = λ _.
    let v = value_of c.self.inside in
    let fit : IsFit v = c.self.invariant (ap (λ v. v.spent) c.self.view_is ∙ c.requires.ready) in
    let e = c.in_ok-request.ensures in
    keys-fit v fit c.request.new.self e.ready e.size e.extends.fanout

pub returns-clause-posted : goal.returns-clause-posted
returns-clause-posted c = c.in_ok-request.ensures.posted ∙ append-nil _ ∙ ap (λ v. posted v.keys) c.self.view_is

pub returns-clause-extends : goal.returns-clause-extends
returns-clause-extends c =
    subst (λ w. Extends w (with_keys (value_of c.self.inside) c.request.new.self) _) c.self.view_is c.in_ok-request.ensures.extends

pub returns-clause-agrees : goal.returns-clause-agrees
returns-clause-agrees c =
    let v = value_of c.self.inside in
    subst (λ w. AgreesOnce w (with_keys v c.request.new.self) c.args.by c.args.broker c.args.namespace c.args.floor c.args.ask) c.self.view_is
    (keys-asked v c.others_leave_the_contents.ensures.one c.request.new.self c.args.by c.args.broker c.args.namespace c.args.floor c.args.ask c.requires.plain c.in_ok-request.ensures.agrees)
