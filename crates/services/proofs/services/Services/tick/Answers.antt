use Rattle.std.proofs.Common.{◌∙◌, ◌++◌, ◌∷◌, [], ap, sym, subst, refl}
use Rattle.job_service.specs.instance_rules.Log.{Ticked}
use Rattle.services.specs.Agrees.{AgreesServices}
use Rattle.services.specs.Asks.{Keeps}
use Rattle.services.specs.View.{IsFit, value_of}
use Rattle.services.proofs.Turning.{jobs-fit, onward, with_jobs}
use Rattle.services.proofs.services.Services.tick.Goals as goal

pub invariant_of-self-2 : goal.invariant_of-self-2
invariant_of-self-2 c = λ _.
    let v = value_of c.self.inside in
    let fit : IsFit v = c.self.invariant (ap (λ v. v.spent) c.self.view_is ∙ c.requires.ready) in
    let e = c.in_ok-tick.ensures in
    jobs-fit v fit c.tick.new.self e.ready e.counts.size

pub returns-clause-keeps : goal.returns-clause-keeps
returns-clause-keeps c =
    subst (λ w. Keeps w (with_jobs (value_of c.self.inside) c.tick.new.self)) c.self.view_is (record { size = refl; counts = c.in_ok-tick.ensures.counts })

pub returns-clause-legal : goal.returns-clause-legal
returns-clause-legal c = λ inst log a. c.in_ok-tick.ensures.legal inst log (subst (λ v. AgreesServices v inst log) (sym c.self.view_is) a).jobs

pub returns-clause-agrees : goal.returns-clause-agrees
returns-clause-agrees c = λ inst log a₀.
    let a = subst (λ v. AgreesServices v inst log) (sym c.self.view_is) a₀ in
    onward (value_of c.self.inside) c.tick.new.self inst log (log ++ Ticked c.args.second ∷ []) a (c.in_ok-tick.ensures.agrees inst log a.jobs)
