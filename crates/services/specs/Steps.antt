-- Which steps the services can make.
use Rattle.std.specs.Prelude.{◌≡◌, Bool, false}
use Rattle.job_service.specs.kvs_txn.declared.txn.By.{By}
use Rattle.job_service.specs.kvs_rules.declared.events.KvsStep.{KvsStep}
use Rattle.job_service.specs.kvs_core.Steps as core
use Rattle.job_service.specs.Children.{is_due}
use Rattle.job_service.specs.Feeds.{can_feed}
use Rattle.job_service.specs.Replies.{can_reply}
use Rattle.services.specs.Value.{ServicesValue}

-- whether the core can make the step
abbrev pub can_step : ServicesValue → KvsStep → Bool
can_step v s = core.can_step v.jobs.manager.core s

-- whether the command's answer waits to be taken
abbrev pub can_take : ServicesValue → By → Bool
can_take v by = core.can_take v.jobs.manager.core by

-- the key-value service and the contents have come to rest: no step can be made, and no answer waits
-- to be taken
pub record HaveRested (v : ServicesValue) : Type 0 where
  pub steps : (s : KvsStep) → can_step v s ≡ false
  pub answers : (by : By) → can_take v by ≡ false

-- nothing but time can go on: nothing is posted or due besides, no job command can be told, and no
-- watch can be fed
pub record IsStill (v : ServicesValue) : Type 0 where
  pub rested : HaveRested v
  pub due : is_due v.jobs ≡ false
  pub untold : (by : By) → can_reply v.jobs by ≡ false
  pub unfed : (by : By) → can_feed v.jobs by ≡ false
