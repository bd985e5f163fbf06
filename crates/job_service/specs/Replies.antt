-- What job commands are told.
use Rattle.std.specs.Prelude.{◌≡◌, ℕ, ◌||◌, ◌&&◌, ◌++◌, [], ◌∷◌, Bool, true, false, Option, Some, is_some, not}
use Rattle.std.specs.Option.{option_map_or}
use Rattle.answers.specs.Jobs.{job_reply_of}
use Rattle.answers.specs.declared.chronicle.Reply.{Reply}
use Rattle.job_deeds.specs.kvs_txn.declared.txn.By.{By}
use Rattle.instance_rules.specs.Log.{Instance, JobReply, Log, Replied}
use Rattle.instance_rules.specs.Replies.{IsLegalReply}
use Rattle.job_commands.specs.Rows.{is_waiting}
use Rattle.job_commands.specs.declared.ask.JobAsk.{JobAsk}
use Rattle.job_commands.specs.declared.ask.JobAsk.TheVariants as ask
use Rattle.job_commands.specs.declared.row.Row.{Row}
use Rattle.job_replies.specs.Ready.{is_ready}
use Rattle.job_service.specs.Agrees.{AgreesJobs}
use Rattle.job_service.specs.Watching.{watched_by}
use Rattle.job_service.specs.Refusals.{fault_for, row_in}
use Rattle.job_service.specs.Value.{JobServiceValue}

-- whether what an open command waits for has come: the end of the job that it watches, or else
abbrev pub has_come : JobServiceValue → Row → Bool
has_come v row = is_some (watched_by v.feeds row.by)
    || is_ready v.commands.labels v.manager v.second row

abbrev pub is_ready_in : JobServiceValue → By → Bool
is_ready_in v by = option_map_or (has_come v) (row_in v.commands by) false

-- whether a post carries out commands that ask so: for a job or for an event
abbrev pub asks_manager : JobAsk → Bool
asks_manager (ask.Submit label urgency needs text) = true
asks_manager (ask.Cancel label) = true
asks_manager (ask.Raise label kind severity note) = true
asks_manager (ask.Urge label urgency) = true
asks_manager _ = false

-- whether the command waits for a post to carry it out
abbrev pub is_undone : Row → Bool
is_undone row = is_waiting row.stage && asks_manager row.ask

-- whether what is posted may carry out the command
abbrev pub is_kept_back : JobServiceValue → By → Bool
is_kept_back v by = is_some v.manager.posted && option_map_or is_undone (row_in v.commands by) false

-- whether the command can be told what became of it: it was refused, or what it waits for has come,
-- and nothing that is posted may carry it out
abbrev pub can_reply : JobServiceValue → By → Bool
can_reply v by = not (is_kept_back v by) && (is_some (fault_for v.refused by) || is_ready_in v by)

-- the command is told so, which its rules allow, and the service stands behind that
pub record Answers (new : JobServiceValue) (inst : Instance)
    (log : Log) (by : By) (given : Reply) (number : Option ℕ) : Type 0 where
  pub reply : JobReply
  pub hands : job_reply_of given ≡ Some reply
  pub legal : IsLegalReply inst log by reply number
  pub agrees : AgreesJobs new inst (log ++ Replied by reply number ∷ [])
