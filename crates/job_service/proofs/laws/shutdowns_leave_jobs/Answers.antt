use Rattle.job_service.proofs.Shutdowns.{shutdown_issued, shutdown_replied}
use Rattle.job_service.proofs.laws.shutdowns_leave_jobs.Goals as goal

pub returns-clause-issued : goal.returns-clause-issued
returns-clause-issued c = λ v inst log by asks fresh a. shutdown_issued v inst log a by asks

pub returns-clause-replied : goal.returns-clause-replied
returns-clause-replied c = λ v inst log by asks waits a. shutdown_replied v inst log a by asks waits
