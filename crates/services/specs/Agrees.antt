-- When the services stand where the log of an instance leaves them.
use Rattle.std.specs.Prelude.{◌≡◌, ℕ}
use Rattle.job_service.specs.fl_digest.declared.Hash.{Hash}
use Rattle.job_service.specs.instance_rules.Log.{Instance, Log}
use Rattle.job_service.specs.Agrees.{AgreesJobs, IsServedBy}
use Rattle.job_service.specs.resource_set.declared.node.Resources.{Resources}
use Rattle.job_service.specs.manager_rules.declared.terms.Terms.{Terms}
use Rattle.services.specs.Value.{ServicesValue}

-- the jobs with the key-value service stand where a log of the instance leaves them, which has so
-- many brokers
pub record AgreesServices (v : ServicesValue) (inst : Instance) (log : Log) : Type 0 where
  pub size : inst.service.size ≡ v.size
  pub jobs : AgreesJobs v.jobs inst log

-- an instance with so many brokers in such a tree, with this hash and this grant, that is born at
-- this second and serves its jobs on these terms
pub record IsGiven (inst : Instance) (brokers children : ℕ)
    (digest : Hash) (grant : Resources) (now : ℕ) (terms : Terms) : Type 0 where
  pub served : IsServedBy inst brokers children grant now terms
  pub hash : inst.service.hash ≡ digest
