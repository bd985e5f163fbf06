use Rattle.std.proofs.Common.{sym, subst}
use Rattle.job_service.specs.Agrees.{AgreesJobs}
use Rattle.job_service.proofs.service.JobService.job_of.Goals as goal

pub returns : goal.returns
returns c = λ inst log a. c.job_of.ensures.named inst log (subst (λ v. AgreesJobs v inst log) (sym c.self.view_is) a).commands
