use Rattle.services.proofs.laws.shutdowns_leave_services.Goals as goal

pub returns-clause-issued : goal.returns-clause-issued
returns-clause-issued c = λ v inst log by asks fresh a. record { size = a.size; jobs = c.shutdowns_leave_jobs.ensures.issued v.jobs inst log by asks fresh a.jobs }

pub returns-clause-replied : goal.returns-clause-replied
returns-clause-replied c = λ v inst log by asks waits a. record { size = a.size; jobs = c.shutdowns_leave_jobs.ensures.replied v.jobs inst log by asks waits a.jobs }
