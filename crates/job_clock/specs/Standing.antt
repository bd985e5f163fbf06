-- An instance where its log leaves it, and as one of the instances that live.
use Rattle.std.specs.Prelude.{◌≡◌, ◌<◌, ◌≤◌, ℕ, List, Some, None, All}
use Rattle.kvs_model.specs.Store.{Store}
use Rattle.kvs_rules.specs.Namespaces.{newest_store, primary}
use Rattle.instance_rules.specs.Family.{Living}
use Rattle.instance_rules.specs.Log.{Instance, IsInstance, Log, service_of}
use Rattle.job_commands.specs.Agrees.{AgreesCommands}
use Rattle.job_commands.specs.Rows.{CommandsValue}
use Rattle.manager_rules.specs.Jobs.{AreJobsOf, StoredJob}

-- the open commands and the children of an instance are those of the log, and the jobs are those of
-- its newest store
pub record StandsWith (v : CommandsValue) (jobs : List StoredJob) (inst : Instance) (log : Log)
    : Type 0 where
  pub valid : IsInstance inst
  pub commands : AgreesCommands v inst log
  pub store : Store
  pub standing : newest_store inst.service (service_of log) primary ≡ Some store
  pub are : AreJobsOf store jobs

-- the instance that lives is this one, with this log
pub record IsLiving (inst : Instance) (log : Log) (l : Living) : Type 0 where
  pub is : l.inst ≡ inst
  pub logged : l.log ≡ log

-- and it was born for no job
pub record IsTop (inst : Instance) (log : Log) (l : Living) : Type 0 where
  pub is : l.inst ≡ inst
  pub logged : l.log ≡ log
  pub from : l.from ≡ None

-- time may go from one second to a later one where something happens by itself at these seconds: it
-- passes none of them
pub record PassesNone (ends : List ℕ) (now second : ℕ) : Type 0 where
  pub above : now < second
  pub before : All (λ other. second ≤ other) ends
