-- What each call makes of the services, and that they can go on.
use Rattle.std.proofs.Common.{◌≡◌, false, ◌∙◌}
use Rattle.job_service.specs.instance_rules.Log.{Instance, Log}
use Rattle.job_service.specs.Agrees.{AgreesJobs}
use Rattle.job_service.specs.Value.{JobServiceValue}
use Rattle.services.specs.Agrees.{AgreesServices}
use Rattle.services.specs.Value.{ServicesValue}
use Rattle.services.specs.View.{IsFit}

-- the services with other jobs
abbrev pub with_jobs : ServicesValue → JobServiceValue → ServicesValue
with_jobs v jobs = record { spent = false; size = v.size; jobs = jobs }

module _ (v : ServicesValue) where
  -- the jobs go on
  pub onward : (new : JobServiceValue) (inst : Instance) (log later : Log) → AgreesServices v inst log → AgreesJobs new inst later → AgreesServices (with_jobs v new) inst later
  onward new inst log later a jobs = record { size = a.size; jobs = jobs }

  pub jobs-fit : IsFit v → (new : JobServiceValue) → new.spent ≡ false → new.manager.core.size ≡ v.jobs.manager.core.size → IsFit (with_jobs v new)
  jobs-fit fit new ready size = record { jobs = ready; jobs_size = size ∙ fit.jobs_size }
