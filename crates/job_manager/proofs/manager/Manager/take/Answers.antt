use Rattle.std.proofs.Common.{◌∙◌, ap, sym, subst}
use Rattle.kvs_core.specs.Agrees.{Agrees}
use Rattle.job_manager.specs.View.{value_of}
use Rattle.job_manager.proofs.Steps.{kept-managed, waits-same}
use Rattle.job_manager.proofs.manager.Manager.take.Goals as goal

pub returns-clause-agrees : goal.returns-clause-agrees
returns-clause-agrees c = λ set log a. c.take-held.ensures.agrees set log (subst (λ v. Agrees v.core set log) (sym c.self.view_is) a)

pub invariant_of-self : goal.invariant_of-self
invariant_of-self c = λ _.
    let v = value_of c.self.inside in
    let m = c.self.invariant (ap (λ w. w.spent) c.self.view_is ∙ c.requires.ready) in
    let e = c.take-held.ensures in
    kept-managed v m c.take-held.new.self e.extends c.standing.ensures.kept c.standing-2.ensures.kept e.ready v.posted (waits-same v.core c.take-held.new.self v.book v.posted e.posted m.outstanding) v.spent
