use Rattle.std.proofs.Common.{◌≡◌, ◌∙◌, Some, sym, ap, subst}
use Rattle.instance_rules.specs.Log.{service_of}
use Rattle.kvs_core.specs.Agrees.{Agrees}
use Rattle.kvs_core.specs.Posted.{newest_of}
use Rattle.kvs_rules.specs.Namespaces.{newest_store, primary}
use Rattle.job_service.specs.Agrees.{AgreesJobs}
use Rattle.job_service.specs.Children.{is_end_due}
use Rattle.job_service.specs.View.{value_of}
use Rattle.job_service.proofs.Bearing.{end_told}
use Rattle.job_service.proofs.service.JobService.may_end.Goals as goal

pub returns-then-is_over-clause-due : goal.returns-then-is_over-clause-due
returns-then-is_over-clause-due c = λ inst log a.
    let b = subst (λ w. AgreesJobs w inst log) (sym c.self.view_is) a in
    let newest = subst (λ k. newest_store inst.service (service_of log) primary ≡ Some (newest_of k)) c.core.ensures (c.standing.ensures.newest inst.service (service_of log) (subst (λ k. Agrees k inst.service (service_of log)) (sym c.core.ensures) b.core)) in
    let told = end_told (value_of c.self.inside) inst log b c.keeps.ensures newest c.args.job c.args.shut in (
      λ t. told.0 (ap (λ w. is_end_due w c.args.job c.args.shut) c.self.view_is ∙ t),
      λ o. ap (λ w. is_end_due w c.args.job c.args.shut) (sym c.self.view_is) ∙ told.1 o,
    )

pub returns-else-is_over-clause-due : goal.returns-else-is_over-clause-due
returns-else-is_over-clause-due c = λ inst log a.
    let b = subst (λ w. AgreesJobs w inst log) (sym c.self.view_is) a in
    let newest = subst (λ k. newest_store inst.service (service_of log) primary ≡ Some (newest_of k)) c.core.ensures (c.standing.ensures.newest inst.service (service_of log) (subst (λ k. Agrees k inst.service (service_of log)) (sym c.core.ensures) b.core)) in
    let told = end_told (value_of c.self.inside) inst log b c.keeps.ensures newest c.args.job c.args.shut in (
      λ t. told.0 (ap (λ w. is_end_due w c.args.job c.args.shut) c.self.view_is ∙ t),
      λ o. ap (λ w. is_end_due w c.args.job c.args.shut) (sym c.self.view_is) ∙ told.1 o,
    )
