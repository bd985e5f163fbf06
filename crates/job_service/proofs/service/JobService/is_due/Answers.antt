use Rattle.std.proofs.Common.{◌≡◌, ◌∙◌, Some, false, sym, ap, subst, rules}
use Rattle.instance_rules.specs.Log.{service_of}
use Rattle.kvs_core.specs.Agrees.{Agrees}
use Rattle.kvs_core.specs.Posted.{newest_of}
use Rattle.kvs_rules.specs.Namespaces.{newest_store, primary}
use Rattle.job_service.specs.Agrees.{AgreesJobs}
use Rattle.job_service.specs.Children.{is_due}
use Rattle.job_service.specs.View.{value_of}
use Rattle.job_service.proofs.Ticking.{idle_free}
use Rattle.job_service.proofs.service.JobService.is_due.Goals as goal

pub returns-else-is_some-clause-idle : goal.returns-else-is_some-clause-idle
returns-else-is_some-clause-idle c = λ inst log a e.
    let i = (c.self.invariant (ap (λ v. v.spent) c.self.view_is ∙ c.requires)).fit in
    let b = subst (λ w. AgreesJobs w inst log) (sym c.self.view_is) a in
    let newest = subst (λ k. newest_store inst.service (service_of log) primary ≡ Some (newest_of k)) c.core.ensures (c.standing.ensures.newest inst.service (service_of log) (subst (λ k. Agrees k inst.service (service_of log)) (sym c.core.ensures) b.core)) in
    let free : is_due c.args.self.now ≡ false = search rules in
    idle_free (value_of c.self.inside) inst log b c.keeps.ensures newest i.bearing (ap is_due c.self.view_is ∙ free)
