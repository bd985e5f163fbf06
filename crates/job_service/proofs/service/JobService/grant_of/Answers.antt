use Rattle.std.proofs.Common.{◌≡◌, ◌∙◌, Contains, Some, None, sym, ap, subst}
use Rattle.instance_rules.specs.Log.{service_of}
use Rattle.kvs_core.specs.Agrees.{Agrees}
use Rattle.kvs_core.specs.Posted.{newest_of}
use Rattle.kvs_rules.specs.Namespaces.{newest_store, primary}
use Rattle.job_service.specs.Agrees.{AgreesJobs}
use Rattle.std.specs.Option.{option_copied}
use Rattle.job_book.specs.Contract.{IsKept, r_at}
use Rattle.job_service.specs.View.{value_of}
use Rattle.job_service.proofs.Bearing.{bearing_holds, granted_of, none_held_by}
use Rattle.job_service.specs.Children.{IsBearing}
use Rattle.job_service.proofs.service.JobService.grant_of.Goals as goal

pub returns-in_ok-child-in-Some-clause-held : goal.returns-in_ok-child-in-Some-clause-held
returns-in_ok-child-in-Some-clause-held c = λ inst log a.
    let b = subst (λ w. AgreesJobs w inst log) (sym c.self.view_is) a in
    let newest = subst (λ k. newest_store inst.service (service_of log) primary ≡ Some (newest_of k)) c.core.ensures (c.standing.ensures.newest inst.service (service_of log) (subst (λ k. Agrees k inst.service (service_of log)) (sym c.core.ensures) b.core)) in
    let held : r_at c.self.inside.manager.book.jobs c.args.job ≡ Some c.in-Some.r.now = ap (λ k. r_at k.jobs c.args.job) (sym c.book-2.ensures) ∙ sym c.r.ensures.found ∙ ap option_copied c.in-Some.is in
    granted_of (value_of c.self.inside) inst log b c.keeps.ensures newest (subst IsKept c.book.ensures c.keeps-2.ensures) c.args.job c.in-Some.r.now c.in_ok-child-in-Some.field-0 held c.in_ok-child-in-Some.ensures.value

pub returns-in-None-clause-none : goal.returns-in-None-clause-none
returns-in-None-clause-none c = λ e j known same.
    let none : r_at c.self.inside.manager.book.jobs c.args.job ≡ None = ap (λ k. r_at k.jobs c.args.job) (sym c.book-2.ensures) ∙ sym c.r.ensures.found ∙ ap option_copied c.in-None.is in
    none_held_by c.self.inside.manager c.keeps.ensures c.args.job none j (subst (λ w. Contains w.manager.book.jobs j) (sym c.self.view_is) known) same

pub returns-in-None-clause-bears : goal.returns-in-None-clause-bears
returns-in-None-clause-bears c = λ is.
    let i = (c.self.invariant (ap (λ v. v.spent) c.self.view_is ∙ c.requires)).fit in
    let none : r_at c.self.inside.manager.book.jobs c.args.job ≡ None = ap (λ k. r_at k.jobs c.args.job) (sym c.book-2.ensures) ∙ sym c.r.ensures.found ∙ ap option_copied c.in-None.is in
    absurd (bearing_holds (value_of c.self.inside) c.keeps.ensures c.args.job (subst (IsBearing c.self.inside.commands c.self.inside.manager.book) (ap (λ v. v.bearing) c.self.view_is ∙ is) i.bearing) none)
