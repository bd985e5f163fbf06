use Rattle.std.proofs.Common.{◌≡◌, ◌∙◌, Some, sym, ap, subst}
use Rattle.instance_rules.specs.Log.{service_of}
use Rattle.kvs_core.specs.Agrees.{Agrees}
use Rattle.kvs_core.specs.Posted.{newest_of}
use Rattle.kvs_rules.specs.Namespaces.{newest_store, primary}
use Rattle.job_service.specs.Agrees.{AgreesJobs}
use Rattle.job_service.specs.View.{value_of}
use Rattle.job_service.specs.Children.{IsBearing}
use Rattle.job_service.proofs.Bearing.{first_birth, no_birth, none_found, some_found}
use Rattle.job_service.proofs.service.JobService.birth.Goals as goal

pub returns-clause-some : goal.returns-clause-some
returns-clause-some c =
    let i = (c.self.invariant (ap (λ v. v.spent) c.self.view_is ∙ c.requires)).fit in
    some_found c.self.inside.bearing (λ job is inst log a.
    let b = subst (λ w. AgreesJobs w inst log) (sym c.self.view_is) a in
    let newest = subst (λ k. newest_store inst.service (service_of log) primary ≡ Some (newest_of k)) c.core.ensures (c.standing.ensures.newest inst.service (service_of log) (subst (λ k. Agrees k inst.service (service_of log)) (sym c.core.ensures) b.core)) in
    first_birth (value_of c.self.inside) inst log b c.keeps.ensures newest job (subst (IsBearing c.self.inside.commands c.self.inside.manager.book) is i.bearing))

pub returns-clause-none : goal.returns-clause-none
returns-clause-none c =
    let i = (c.self.invariant (ap (λ v. v.spent) c.self.view_is ∙ c.requires)).fit in
    none_found c.self.inside.bearing (λ is inst log a.
    let b = subst (λ w. AgreesJobs w inst log) (sym c.self.view_is) a in
    let newest = subst (λ k. newest_store inst.service (service_of log) primary ≡ Some (newest_of k)) c.core.ensures (c.standing.ensures.newest inst.service (service_of log) (subst (λ k. Agrees k inst.service (service_of log)) (sym c.core.ensures) b.core)) in
    no_birth (value_of c.self.inside) inst log b c.keeps.ensures newest (subst (IsBearing c.self.inside.commands c.self.inside.manager.book) is i.bearing))
