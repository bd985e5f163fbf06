-- An instance with its jobs, its children and its time: what its commands on jobs ask, which
-- replies are theirs, and its log.
use Rattle.std.specs.Prelude.{◌≡◌, ◌<◌, ◌^◌, ◌==◌, ℕ, List, [], ◌∷◌, ◌++◌, Option, Some, None, IfSome, false, is_some, map, option_and_then, option_map, if◌then◌else◌}
use Rattle.std.specs.List.{AllByRecursion as Each, cons_option}
use Rattle.std.specs.Option.{option_map_or}
use Rattle.kvs_txn.specs.declared.txn.By.{By}
use Rattle.job_rules.specs.Fits.{IsGrant}
use Rattle.resource_set.specs.Writing.{r_text}
use Rattle.tap.specs.Factors.{priority_by}
use Rattle.instance_rules.specs.Log as rules
use Rattle.instance_rules.specs.Log.{Instance, JobAsk, JobReply, Key, JobspecKey, RKey, LogKey, Log, Moment, Named, Served, Issued, Replied, Ticked, Born, Gone, Fed, IsInRange, now_of}
use Rattle.instance_rules.specs.Family.{HasTarget, Living}
use Rattle.instance_rules.specs.Legal.{IsLegalMoment}
use Rattle.answers.specs.declared.chronicle.Entry.{Entry}
use Rattle.answers.specs.declared.chronicle.Entry.TheVariants as entry
use Rattle.answers.specs.declared.chronicle.JobState.{JobState}
use Rattle.answers.specs.declared.chronicle.Reply.{Reply}
use Rattle.answers.specs.declared.chronicle.Reply.TheVariants as reply
use Rattle.workload.specs.declared.work.Command.{Command}
use Rattle.workload.specs.declared.work.Command.TheVariants as command
use Rattle.workload.specs.declared.work.InfoKey.{InfoKey}
use Rattle.workload.specs.declared.work.InfoKey.TheVariants as key
use Rattle.workload.specs.declared.work.Needed.{Needed}
use Rattle.workload.specs.declared.work.Workload.{Workload}
use Rattle.answers.specs.Commands.{broker_of, command_at}
use Rattle.answers.specs.Chronicle.{Checkpoint, Setup, top}
use Rattle.answers.specs.Services.{moment_of, setting_of}

-- ---- commands and replies

abbrev pub named_by : Needed → Named
named_by need = record { scheme = need.scheme; label = need.label }

abbrev pub key_by : InfoKey → Key
key_by key.Jobspec = JobspecKey
key_by key.R = RKey
key_by key.Eventlog = LogKey

-- what a command asks of the job manager, of time or of its instance, if it asks anything
abbrev pub job_ask_of : Command → Option JobAsk
job_ask_of (command.Submit label urgency depends spec) =
    Some (rules.Submit label urgency (map named_by depends) spec)
job_ask_of (command.Cancel label) = Some (rules.Cancel label)
job_ask_of (command.Raise label kind severity note) = Some (rules.Raise label kind severity note)
job_ask_of (command.Urgency label urgency) = Some (rules.Urge label urgency)
job_ask_of (command.StateOf label) = Some (rules.StateOf label)
job_ask_of (command.Info label shown) = Some (rules.Info label (key_by shown))
job_ask_of command.Jobs = Some rules.Jobs
job_ask_of (command.Why label) = Some (rules.Why label)
job_ask_of (command.ResultOf label) = Some (rules.ResultOf label)
job_ask_of (command.Watch label) = Some (rules.Watch label)
job_ask_of (command.Advance seconds) = Some (rules.Advance seconds)
job_ask_of command.Shutdown = Some rules.Shutdown
job_ask_of _ = None

abbrev pub job_ask_at : Workload → By → Option JobAsk
job_ask_at work by = option_and_then job_ask_of (command_at work by)

abbrev pub state_by : JobState → rules.JobState
state_by job = record { id = job.id; state = job.state }

-- the answer of the job manager or of time that a reply hands on
abbrev pub job_reply_of : Reply → Option JobReply
job_reply_of (reply.Submitted id) = Some (rules.Submitted id)
job_reply_of (reply.BadSpec fault) = Some (rules.BadSpec fault)
job_reply_of (reply.Checked reason) = Some (rules.Checked reason)
job_reply_of reply.NoJob = Some rules.NoJob
job_reply_of reply.Raised = Some rules.Raised
job_reply_of reply.Ended = Some rules.Ended
job_reply_of (reply.NotWaiting where_) = Some (rules.NotWaiting where_)
job_reply_of (reply.StateIs where_) = Some (rules.StateIs where_)
job_reply_of (reply.Info shown) = Some (rules.Shown shown)
job_reply_of (reply.Jobs jobs) = Some (rules.Listed (map state_by jobs))
job_reply_of (reply.Busy ids) = Some (rules.Busy ids)
job_reply_of (reply.Behind id) = Some (rules.Behind id)
job_reply_of reply.Held = Some rules.Held
job_reply_of reply.Ready = Some rules.Ready
job_reply_of (reply.EndedWith status) = Some (rules.EndedWith status)
job_reply_of (reply.Watched shown) = Some (rules.Watched shown)
job_reply_of (reply.Advanced second) = Some (rules.Advanced second)
job_reply_of reply.Shut = Some rules.Shut
job_reply_of _ = None

-- ---- the instance and its log

-- the second at which it begins: that of its birth, or the one at which the run goes on
abbrev pub start_of : Setup → ℕ
start_of set = option_map_or (λ (kept : Checkpoint). kept.second) set.base set.birth

-- the instance that is given this: it serves its jobs on the run's terms
abbrev pub instance_of : Setup → Instance
instance_of set = record {
  service = setting_of set;
  birth = set.birth;
  start = start_of set;
  grant = set.resources;
  answer = priority_by set.terms.weights;
  policy = set.terms.policy;
  limits = set.terms.limits;
  shown = set.terms.shown;
  asks = job_ask_at set.work;
  rank = λ by. broker_of set.work by.actor;
}

-- an entry after this chronicle as a moment of the instance, if it is one
abbrev pub happening_of : Workload → List Entry → Entry → Option Moment
happening_of work c (entry.Issued actor number) =
    let by : By = record { actor = actor; command = number } in
    if is_some (job_ask_at work by) then Some (Issued by)
    else option_map Served (moment_of work top c (entry.Issued actor number))
happening_of work c (entry.Replied actor command given number) =
    let by : By = record { actor = actor; command = command } in
    option_map_or (λ r. Some (Replied by r number)) (job_reply_of given)
    (option_map Served (moment_of work top c (entry.Replied actor command given number)))
happening_of work c (entry.Ticked second) = Some (Ticked second)
happening_of work c (entry.Born child parent job label second grant) =
    if parent == top then Some (Born job) else None
happening_of work c (entry.Gone child parent job shut) =
    if parent == top then Some (Gone job shut) else None
happening_of work c (entry.Watched actor command number first count) =
    Some (Fed (record { actor = actor; command = command }) number first count)
happening_of work c e = option_map Served (moment_of work top c e)

-- the moments of the instance among further entries
abbrev pub happenings_after : Workload → List Entry → List Entry → Log
happenings_after work c [] = []
happenings_after work c (e ∷ more) =
    cons_option (happening_of work c e) (happenings_after work (c ++ e ∷ []) more)

-- the log of the instance
abbrev pub log_in : Workload → List Entry → Log
log_in work c = happenings_after work [] c

-- what an entry is to the instance may follow its log
abbrev pub IsLegalHappening : Setup → List Entry → Entry → Type 0
IsLegalHappening set c e = IfSome (happening_of set.work c e)
    (IsLegalMoment (instance_of set) (log_in set.work c))

-- what an instance is given fits together, and it begins anew: the text is that of the resources,
-- and the numbers and texts of commands on jobs are within their ranges
pub record IsSetup (set : Setup) : Type 0 where
  pub anew : set.base ≡ None
  pub text : set.grant ≡ r_text set.resources
  pub grant : IsGrant set.resources.nodes
  pub asks : (by : By) (ask : JobAsk) → job_ask_at set.work by ≡ Some ask → (by.actor < 2 ^ 32)
      × IsInRange ask

-- ---- time

-- the second that it is
abbrev pub second_of : Setup → List Entry → ℕ
second_of set c = now_of (instance_of set) (log_in set.work c)

-- the instance as one that lives, as if no job were its own and nobody shut it down
abbrev pub living_of : Setup → List Entry → Living
living_of set c = record {
  number = top;
  inst = instance_of set;
  log = log_in set.work c;
  from = None;
  shuts = false;
}

-- no advance waits for its second
abbrev pub HasNoAdvance : Setup → List Entry → Type 0
HasNoAdvance set c = (target : ℕ) → HasTarget (living_of set c) target → ⊥

-- ---- workloads

-- no command of the workload is about jobs or time
abbrev pub IsWithoutJobs : Workload → Type 0
IsWithoutJobs work = Each (λ line. job_ask_of line.command ≡ None) work.lines
