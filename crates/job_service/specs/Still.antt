-- When nothing of an instance's jobs can go on, and what open commands then wait for.
use Rattle.std.specs.Prelude.{◌≡◌, false, List, Option, Some, None, option_and_then, if◌then◌else◌}
use Rattle.job_commands.specs.declared.ask.JobAsk.{JobAsk}
use Rattle.job_commands.specs.declared.ask.JobAsk.TheVariants as ask
use Rattle.job_commands.specs.Rows.{Labels}
use Rattle.job_replies.specs.Ready.{is_inactive, state_in}
use Rattle.job_deeds.specs.job_states.declared.job.State.{State}
use Rattle.kvs_core.specs.Steps.{IsStill as CoreIsStill}
use Rattle.job_deeds.specs.kvs_txn.declared.txn.By.{By}
use Rattle.job_deeds.specs.manager_rules.Jobs.{StoredJob}
use Rattle.job_service.specs.Children.{is_due}
use Rattle.job_service.specs.Feeds.{can_feed}
use Rattle.job_service.specs.Refusals.{row_in}
use Rattle.job_service.specs.Replies.{can_reply}
use Rattle.job_service.specs.Value.{JobServiceValue}

-- nothing but time can go on: no step of the key-value service can be made and none of its answers
-- waits, nothing is posted or due, no job command can be told, and no watch can be fed
pub record IsStill (v : JobServiceValue) : Type 0 where
  pub core : CoreIsStill v.manager.core
  pub due : is_due v ≡ false
  pub untold : (by : By) → can_reply v by ≡ false
  pub unfed : (by : By) → can_feed v by ≡ false

-- the state of a job that isn't over
abbrev pub unless_over : State → Option State
unless_over where_ = if is_inactive where_ then None else Some where_

-- the state of the job whose result the command asks for, where that isn't over, or that it watches
abbrev pub awaited_by : Labels → List StoredJob → JobAsk → Option State
awaited_by labels jobs (ask.ResultOf label) =
    option_and_then unless_over (state_in labels jobs label)
awaited_by labels jobs (ask.Watch label) = state_in labels jobs label
awaited_by labels jobs _ = None

-- the state of the job whose end the open command waits for, if it waits for one
abbrev pub awaited : JobServiceValue → By → Option State
awaited v by = option_and_then (λ row. awaited_by v.commands.labels v.manager.book.jobs row.ask)
    (row_in v.commands by)
