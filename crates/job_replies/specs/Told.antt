-- What open job commands are told.
use Rattle.std.specs.Prelude.{◌≡◌, ℕ, Option, Some}
use Rattle.kvs_core.specs.Agrees.{Agrees}
use Rattle.kvs_rules.specs.Answers as service_rules
use Rattle.job_deeds.specs.kvs_txn.declared.txn.By.{By}
use Rattle.answers.specs.Jobs.{job_reply_of}
use Rattle.answers.specs.declared.chronicle.Reply.{Reply}
use Rattle.instance_rules.specs.Log.{Instance, JobReply, Log, now_of, service_of}
use Rattle.instance_rules.specs.Replies.{IsLegalReply}
use Rattle.job_commands.specs.Agrees.{AgreesCommands}
use Rattle.job_commands.specs.Rows.{CommandsValue}
use Rattle.job_manager.specs.Value.{ManagerValue}

-- the commands and the manager stand where the log of the instance leaves them, at this second
pub record Stands (v : CommandsValue) (manager : ManagerValue)
    (now : ℕ) (inst : Instance) (log : Log) : Type 0 where
  pub commands : AgreesCommands v inst log
  pub service : Agrees manager.core inst.service (service_of log)
  pub legal : service_rules.IsLegalLog inst.service (service_of log)
  pub grant : manager.book.grant ≡ inst.grant
  pub policy : manager.book.policy ≡ inst.policy
  pub second : now_of inst log ≡ now

-- the command may be told so
pub record MayTell (inst : Instance) (log : Log) (by : By)
    (given : Reply) (number : Option ℕ) : Type 0 where
  pub reply : JobReply
  pub hands : job_reply_of given ≡ Some reply
  pub legal : IsLegalReply inst log by reply number
