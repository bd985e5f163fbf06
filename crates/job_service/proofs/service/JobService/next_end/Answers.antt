use Rattle.std.proofs.Common.{◌≡◌, Some, sym, subst, Contains}
use Rattle.instance_rules.specs.Log.{service_of}
use Rattle.kvs_core.specs.Agrees.{Agrees}
use Rattle.kvs_core.specs.Posted.{newest_of}
use Rattle.kvs_rules.specs.Namespaces.{newest_store, primary}
use Rattle.job_service.specs.Agrees.{AgreesJobs}
use Rattle.instance_rules.specs.Family.{OfLiving}
use Rattle.job_deeds.specs.manager_rules.Times.{seconds_ahead}
use Rattle.job_book.specs.Contract.{seconds_left}
use Rattle.job_service.specs.View.{value_of}
use Rattle.job_service.proofs.Ticking.{ends_left}
use Rattle.job_service.proofs.service.JobService.next_end.Goals as goal

pub returns-clause-ends : goal.returns-clause-ends
returns-clause-ends c = λ inst log l second a lives.
    let b = subst (λ w. AgreesJobs w inst log) (sym c.self.view_is) a in
    let newest = subst (λ k. newest_store inst.service (service_of log) primary ≡ Some (newest_of k)) c.core.ensures (c.standing.ensures.newest inst.service (service_of log) (subst (λ k. Agrees k inst.service (service_of log)) (sym c.core.ensures) b.core)) in
    subst (λ w. (OfLiving l (λ desk. Contains (seconds_ahead desk.scene) second) → Contains (seconds_left w.second w.manager.book) second) × (Contains (seconds_left w.second w.manager.book) second → OfLiving l (λ desk. Contains (seconds_ahead desk.scene) second))) c.self.view_is
    (ends_left (value_of c.self.inside) inst log b c.keeps.ensures newest l lives second)
