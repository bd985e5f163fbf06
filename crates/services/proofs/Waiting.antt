-- Whose answer waits to be taken has asked, and waits.
use Rattle.std.proofs.Common.{◌≡◌, true, Some}
use Rattle.job_service.specs.kvs_txn.declared.txn.By.{By}
use Rattle.job_service.specs.kvs_rules.Log.{IsOpen}
use Rattle.job_service.specs.kvs_rules.Namespaces.{Request}
use Rattle.job_service.specs.instance_rules.Log.{Instance, Log, service_of}
use Rattle.job_service.proofs.kvs_core_proofs.Waiting as core
use Rattle.services.specs.Agrees.{AgreesServices}
use Rattle.services.specs.Steps.{can_take}
use Rattle.services.specs.Value.{ServicesValue}

module _ (v : ServicesValue) (inst : Instance) (log : Log) (a : AgreesServices v inst log) where
  -- whose answer waits to be taken is open
  pub taken_waits : (by : By) → can_take v by ≡ true → IsOpen by (service_of log)
  taken_waits by can = core.taken_waits v.jobs.manager.core inst.service (service_of log) a.jobs.core by can

  -- an open command asks something
  pub open_asks : (by : By) → IsOpen by (service_of log) → (request : Request) × (inst.service.asks by ≡ Some request)
  open_asks by waits = core.open_asks v.jobs.manager.core inst.service (service_of log) a.jobs.core by waits
