use Rattle.std.proofs.Common.{◌∙◌, [], ap, subst}
use Rattle.kvs_core.specs.Histories.{Extends}
use Rattle.kvs_core.specs.Posted.{posted}
use Rattle.kvs_core.specs.Requests.{AgreesOnce}
use Rattle.kvs_core.specs.View.{IsFit, value_of}
use Rattle.kvs_core.proofs.Turning.{contents-asked, contents-fit, same_extend, with_contents}
use Rattle.kvs_core.proofs.service.Core.ask_contents.Goals as goal

pub invariant_of-self-2 : goal.invariant_of-self-2
invariant_of-self-2 c = λ _.
    let v = value_of c.self.inside in
    let fit : IsFit v = c.self.invariant (ap (λ v. v.spent) c.self.view_is ∙ c.requires.ready) in
    let e = c.in_ok-request.ensures in
    contents-fit v fit c.request.new.self e.ready e.size e.fanout

pub returns-clause-posted : goal.returns-clause-posted
returns-clause-posted c = ap posted c.self.view_is

pub returns-clause-extends : goal.returns-clause-extends
returns-clause-extends c =
    let v = value_of c.self.inside in
    subst (λ w. Extends w (with_contents v c.request.new.self) []) c.self.view_is (same_extend v.keys)

pub returns-clause-agrees : goal.returns-clause-agrees
returns-clause-agrees c = λ space floor.
    let v = value_of c.self.inside in
    subst (λ w. AgreesOnce w (with_contents v c.request.new.self) c.args.by c.args.broker space floor c.args.ask) c.self.view_is
    (contents-asked v c.content_moments_leave_the_keys.ensures c.request.new.self c.args.by c.args.broker c.args.ask c.requires.about c.in_ok-request.ensures.agrees space floor)
