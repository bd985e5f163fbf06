-- Submissions that are refused at their issue.
use Rattle.std.specs.Prelude.{◌≡◌, Bool, List, [], ◌∷◌, Option, Some, None, find, option_map}
use Rattle.kvs_rules.specs.Log.{same_command}
use Rattle.job_deeds.specs.kvs_txn.declared.txn.By.{By}
use Rattle.instance_rules.specs.Log as rules
use Rattle.job_commands.specs.Rows.{CommandsValue, is_of}
use Rattle.job_commands.specs.declared.ask.JobAsk.{JobAsk}
use Rattle.job_commands.specs.declared.ask.JobAsk.TheVariants as ask
use Rattle.job_commands.specs.declared.row.Row.{Row}
use Rattle.job_submissions.specs.Faults.{IsVerdict}
use Rattle.job_submissions.specs.declared.faults.Fault.{Fault}
use Rattle.job_submissions.specs.declared.faults.Fault.TheVariants as fault
use Rattle.job_deeds.specs.manager_rules.Jobs.{StoredJob}
use Rattle.job_deeds.specs.manager_rules.declared.terms.Limits.{Limits}
use Rattle.job_service.specs.declared.refusals.Refused.{Refused}

-- whether the refusal is of this command
abbrev pub is_refusal_of : By → Refused → Bool
is_refusal_of by r = same_command by r.by

-- why the command was refused, if it was
abbrev pub fault_for : List Refused → By → Option Fault
fault_for list by = option_map (λ r. r.fault) (find (is_refusal_of by) list)

-- the refusal of a command, if it is refused
abbrev pub refusals_of : By → Option Fault → List Refused
refusals_of by None = []
refusals_of by (Some f) = record { by = by; fault = f } ∷ []

-- what a refused submission is told
abbrev pub reply_to : Fault → rules.JobReply
reply_to (fault.BadSpec number) = rules.BadSpec number
reply_to (fault.Checked reason) = rules.Checked reason
reply_to fault.NoJob = rules.NoJob

-- why the command is refused at its issue, if it is: no command but a submission is
abbrev pub IsFaultOf : Limits → CommandsValue → List StoredJob → JobAsk → Option Fault → Type 0
IsFaultOf limits v jobs (ask.Submit label urgency needs text) found =
    IsVerdict limits v jobs needs text found
IsFaultOf limits v jobs _ found = found ≡ None

-- the row of an open command
abbrev pub row_in : CommandsValue → By → Option Row
row_in v by = find (is_of by) v.rows
