use Rattle.std.proofs.Common.{◌∙◌, append-nil, ap, false, sym, subst}
use Rattle.kvs_core.specs.Agrees.{Agrees}
use Rattle.kvs_core.specs.Requests.{AsksAtRest}
use Rattle.job_manager.specs.View.{value_of}
use Rattle.job_manager.proofs.Steps.{kept-managed, waits-same}
use Rattle.job_manager.proofs.manager.Manager.ask.Goals as goal

pub returns-clause-agrees : goal.returns-clause-agrees
returns-clause-agrees c = λ set log a made floors seen fresh rested. c.in_ok-request.ensures.agrees set log (subst (λ v. Agrees v.core set log) (sym c.self.view_is) a) made floors seen fresh (subst (λ v. AsksAtRest set v.core) (sym c.self.view_is) rested)

pub invariant_of-self-2 : goal.invariant_of-self-2
invariant_of-self-2 c = λ _.
    let v = value_of c.self.inside in
    let m = c.self.invariant (ap (λ w. w.spent) c.self.view_is ∙ c.requires.ready) in
    let e = c.in_ok-request.ensures in
    kept-managed v m c.request.new.self e.extends c.standing.ensures.kept c.standing-2.ensures.kept e.ready v.posted (waits-same v.core c.request.new.self v.book v.posted (e.posted ∙ append-nil _) m.outstanding) false
