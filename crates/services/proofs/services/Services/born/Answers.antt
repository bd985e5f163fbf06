use Rattle.std.proofs.Common.{◌∙◌, ◌++◌, ◌∷◌, [], ap, sym, subst}
use Rattle.job_service.specs.instance_rules.Log.{Born}
use Rattle.services.specs.Agrees.{AgreesServices}
use Rattle.services.specs.View.{IsFit, value_of}
use Rattle.services.proofs.Turning.{jobs-fit, onward}
use Rattle.services.proofs.services.Services.born.Goals as goal

pub invariant_of-self-2 : goal.invariant_of-self-2
invariant_of-self-2 c = λ _.
    let v = value_of c.self.inside in
    let fit : IsFit v = c.self.invariant (ap (λ v. v.spent) c.self.view_is ∙ c.requires.ready) in
    let e = c.in_ok-born.ensures in
    jobs-fit v fit c.born.new.self e.ready e.counts.size

pub returns-clause-legal : goal.returns-clause-legal
returns-clause-legal c = λ inst log a. c.in_ok-born.ensures.legal inst log (subst (λ v. AgreesServices v inst log) (sym c.self.view_is) a).jobs

pub returns-clause-agrees : goal.returns-clause-agrees
returns-clause-agrees c = λ inst log a₀.
    let a = subst (λ v. AgreesServices v inst log) (sym c.self.view_is) a₀ in
    onward (value_of c.self.inside) c.born.new.self inst log (log ++ Born c.args.job ∷ []) a (c.in_ok-born.ensures.agrees inst log a.jobs)
