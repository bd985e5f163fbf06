-- Where nothing can go on, nothing of the services can.
use Rattle.std.proofs.Common.{◌≡◌, ℕ, ◌<◌, IsSome, Some, refl, sym, ◌∙◌, subst}
use Rattle.job_service.specs.kvs_rules.Log.{Log}
use Rattle.job_service.specs.kvs_rules.Brokers.{heard}
use Rattle.job_service.specs.kvs_rules.Namespaces.{Setting, landed, primary}
use Rattle.job_service.specs.kvs_rules.Quiet.{AreAllTold}
use Rattle.job_service.specs.kvs_core.Steps.{IsStill as CoreIsStill}
use Rattle.job_service.specs.Still.{IsStill as JobsAreStill}
use Rattle.services.specs.Steps.{HaveRested, IsStill}
use Rattle.services.specs.Value.{ServicesValue}

pub core_rests : (v : ServicesValue) → HaveRested v → CoreIsStill v.jobs.manager.core
core_rests v h = record { steps = h.steps; answers = h.answers }

pub jobs_still : (v : ServicesValue) → IsStill v → JobsAreStill v.jobs
jobs_still v h = record { core = core_rests v h.rested; due = h.due; untold = h.untold; unfed = h.unfed }

-- where all are told, a broker has heard the last landing of `primary`
pub heard_last : (set : Setting) (log : Log) (broker number : ℕ) → AreAllTold set log → broker < set.size → heard log broker primary ≡ Some number → number ≡ landed log primary
heard_last set log broker number told within knows = same (sym knows ∙ told broker primary within (subst IsSome (sym knows) refl))
  where
    same : {x y : ℕ} → Some x ≡ Some y → x ≡ y
    same e = cc
