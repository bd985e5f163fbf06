use Rattle.std.proofs.Common.{◌∙◌, ◌⊎◌, ◌<◌, IsSome, ap, sym, subst}
use Rattle.job_service.specs.instance_rules.Family.{IsLeftAdvance}
use Rattle.job_service.specs.instance_rules.Log.{service_of}
use Rattle.job_service.specs.kvs_core.Agrees.{Agrees}
use Rattle.job_service.specs.kvs_core.Seen.{primary_heard}
use Rattle.job_service.specs.kvs_core.Steps.{IsStill as CoreIsStill}
use Rattle.job_service.specs.Children.{is_due}
use Rattle.job_service.specs.Still.{awaited}
use Rattle.job_service.specs.Times.{targets_left}
use Rattle.services.specs.Agrees.{AgreesServices}
use Rattle.services.specs.Steps.{HaveRested, IsStill, can_step, can_take}
use Rattle.services.specs.View.{value_of}
use Rattle.services.proofs.Resting.{core_rests, heard_last, jobs_still}
use Rattle.services.proofs.services.Services.still.Goals as goal

pub returns-clause-quiet : goal.returns-clause-quiet
returns-clause-quiet c = λ inst log a₀ rested₀.
    let v = value_of c.self.inside in
    let a = subst (λ v. AgreesServices v inst log) (sym c.self.view_is) a₀ in
    let rested = subst HaveRested (sym c.self.view_is) rested₀ in
    let here = sym (c.core.ensures.value ∙ sym (ap (λ v. v.jobs.manager.core) c.self.view_is)) in
    c.still.ensures.quiet inst.service (service_of log) (subst (λ k. Agrees k inst.service (service_of log)) here a.jobs.core) (subst CoreIsStill here (core_rests v rested))

pub returns-clause-heard : goal.returns-clause-heard
returns-clause-heard c = λ inst log a₀ rested₀.
    let v = value_of c.self.inside in
    let a = subst (λ v. AgreesServices v inst log) (sym c.self.view_is) a₀ in
    let rested = subst HaveRested (sym c.self.view_is) rested₀ in
    let here = sym (c.core.ensures.value ∙ sym (ap (λ v. v.jobs.manager.core) c.self.view_is)) in
    c.still.ensures.heard inst.service (service_of log) (subst (λ k. Agrees k inst.service (service_of log)) here a.jobs.core) (subst CoreIsStill here (core_rests v rested))

pub returns-clause-last : goal.returns-clause-last
returns-clause-last c = λ inst log a₀ rested₀ broker within.
    let v = value_of c.self.inside in
    let a = subst (λ v. AgreesServices v inst log) (sym c.self.view_is) a₀ in
    let here = sym (c.core-2.ensures.value ∙ sym (ap (λ v. v.jobs.manager.core) c.self.view_is)) in
    let knows = c.standing.ensures.heard inst.service (service_of log) (subst (λ k. Agrees k inst.service (service_of log)) here a.jobs.core) broker
    (subst (λ n. broker < n) (a.jobs.core.size ∙ ap (λ k. k.size) here) within) in
    ap (λ k. primary_heard k broker) (sym c.core-2.ensures.value)
    ∙ heard_last inst.service (service_of log) broker (primary_heard c.core-2.result.now broker) (returns-clause-quiet c inst log a₀ rested₀).told within knows

pub returns-clause-idle : goal.returns-clause-idle
returns-clause-idle c = λ inst log a₀ still₀.
    let a = subst (λ v. AgreesServices v inst log) (sym c.self.view_is) a₀ in
    c.still-2.ensures.idle inst log a.jobs (jobs_still (value_of c.self.inside) (subst IsStill (sym c.self.view_is) still₀))

pub returns-clause-advanced : goal.returns-clause-advanced
returns-clause-advanced c = λ inst log l a₀ still₀ late.
    let a = subst (λ v. AgreesServices v inst log) (sym c.self.view_is) a₀ in
    c.still-2.ensures.advanced inst log l a.jobs (jobs_still (value_of c.self.inside) (subst IsStill (sym c.self.view_is) still₀)) (ap (λ v. targets_left v.jobs) c.self.view_is ∙ late)

pub returns-clause-free : goal.returns-clause-free
returns-clause-free c = λ steps answers unfound unborn.
    let core = core_rests (value_of c.self.inside) (record {
      steps = λ s. ap (λ v. can_step v s) c.self.view_is ∙ steps s;
      answers = λ by. ap (λ v. can_take v by) c.self.view_is ∙ answers by;
    }) in
    sym (ap (λ v. is_due v.jobs) c.self.view_is) ∙ c.still-2.ensures.free core (ap (λ v. v.jobs.found) c.self.view_is ∙ unfound) (ap (λ v. v.jobs.bearing) c.self.view_is ∙ unborn)

pub returns-clause-left : goal.returns-clause-left
returns-clause-left c = λ inst log l a₀ still₀ lives by some other waits.
    let a = subst (λ v. AgreesServices v inst log) (sym c.self.view_is) a₀ in
    subst (λ v. IsSome (awaited v.jobs by) ⊎ IsLeftAdvance l by) c.self.view_is
    (c.still-2.ensures.left inst log l a.jobs (jobs_still (value_of c.self.inside) (subst IsStill (sym c.self.view_is) still₀)) lives (returns-clause-quiet c inst log a₀ still₀.rested).told by some other waits)

pub returns-clause-results : goal.returns-clause-results
returns-clause-results c = λ inst log l a₀ still₀ top by where_ is.
    let a = subst (λ v. AgreesServices v inst log) (sym c.self.view_is) a₀ in
    c.still-2.ensures.results inst log l a.jobs top by where_ (ap (λ v. awaited v.jobs by) c.self.view_is ∙ is)
    (jobs_still (value_of c.self.inside) (subst IsStill (sym c.self.view_is) still₀)) (returns-clause-quiet c inst log a₀ still₀.rested).told
