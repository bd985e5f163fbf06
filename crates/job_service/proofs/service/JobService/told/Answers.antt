use Rattle.std.proofs.Common.{◌∙◌, sym, ap, subst}
use Rattle.job_service.specs.Agrees.{AgreesJobs}
use Rattle.job_service.specs.View.{value_of}
use Rattle.job_service.specs.Refusals.{fault_for}
use Rattle.job_service.proofs.Calls.{told_refused}
use Rattle.job_service.proofs.service.JobService.told.Goals as goal

pub returns-in-Some : goal.returns-in-Some
returns-in-Some c = λ inst log a.
    let b = subst (λ v. AgreesJobs v inst log) (sym c.self.view_is) a in
    told_refused (value_of c.self.inside) inst log b c.args.by c.in-Some.fault
    (ap (λ l. fault_for l c.args.by) (sym c.as_slice.ensures.value) ∙ sym c.refusal_of.ensures ∙ c.in-Some.is) c.reply_of.result c.reply_of.ensures
