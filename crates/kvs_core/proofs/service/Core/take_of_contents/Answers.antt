use Rattle.std.proofs.Common.{◌≡◌, ◌∙◌, ◌++◌, ◌∷◌, [], None, true, ap, sym, subst}
use Rattle.kvs_rules.specs.Log.{Happened}
use Rattle.kvs_rules.specs.declared.events.KvsEvent.TheVariants as event
use Rattle.content_service.specs.Steps.{can_take}
use Rattle.kvs_core.specs.Agrees.{Agrees}
use Rattle.kvs_core.specs.Histories.{Extends}
use Rattle.kvs_core.specs.Posted.{posted}
use Rattle.kvs_core.specs.View.{IsFit, value_of}
use Rattle.kvs_core.proofs.Turning.{contents-fit, contents-tell, same_extend, with_contents}
use Rattle.kvs_core.proofs.service.Core.take_of_contents.Goals as goal

pub invariant_of-self : goal.invariant_of-self
invariant_of-self c = λ live.
    let v = value_of c.self.inside in
    let fit : IsFit v = c.self.invariant (ap (λ v. v.spent) c.self.view_is ∙ c.requires.ready) in
    let e = c.take.ensures in
    subst (λ b. IsFit (record (with_contents v c.take.new.self) { spent = b })) (sym live)
    (contents-fit v fit c.take.new.self e.ready e.size e.fanout)

pub returns-clause-posted : goal.returns-clause-posted
returns-clause-posted c = ap posted c.self.view_is

pub returns-clause-extends : goal.returns-clause-extends
returns-clause-extends c =
    let v = value_of c.self.inside in
    subst (λ w. Extends w (with_contents v c.take.new.self) []) c.self.view_is (same_extend v.keys)

pub returns-clause-legal : goal.returns-clause-legal
returns-clause-legal c = λ set log a. c.take.ensures.legal set log (subst (λ v. Agrees v set log) (sym c.self.view_is) a).contents

pub returns-clause-agrees : goal.returns-clause-agrees
returns-clause-agrees c = λ set log a.
    let v = value_of c.self.inside in
    let can = subst (λ v. can_take v.contents c.args.by ≡ true) (sym c.self.view_is) c.requires.can in
    subst (λ b. Agrees (record (with_contents v c.take.new.self) { spent = b }) set (log ++ Happened (event.Answered c.args.by None c.take.result) ∷ [])) (sym (ap (λ v. v.spent) c.self.view_is ∙ c.requires.ready))
    (contents-tell v c.content_moments_leave_the_keys.ensures c.take.new.self c.args.by c.take.result can c.take.ensures.legal c.take.ensures.agrees set log (subst (λ v. Agrees v set log) (sym c.self.view_is) a))
