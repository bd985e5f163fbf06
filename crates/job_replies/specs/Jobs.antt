-- What is told of jobs.
use Rattle.std.specs.Prelude.{◌≡◌, ℕ, ◌+◌, List, Option, Some, None, map}
use Rattle.answers.specs.declared.chronicle.JobState.{JobState}
use Rattle.answers.specs.declared.chronicle.Reply.{Reply}
use Rattle.answers.specs.declared.chronicle.Reply.TheVariants as reply
use Rattle.instance_rules.specs.Log.{Instance, Log, service_of}
use Rattle.instance_rules.specs.Replies.{key_path}
use Rattle.job_commands.specs.Asks.{key_of}
use Rattle.job_commands.specs.Rows.{Labels, job_at}
use Rattle.job_commands.specs.declared.ask.JobAsk.{JobAsk}
use Rattle.job_commands.specs.declared.ask.JobAsk.TheVariants as ask
use Rattle.job_commands.specs.declared.ask.Key.{Key}
use Rattle.job_commands.specs.declared.row.Row.{Row}
use Rattle.job_commands.specs.declared.row.Stage.{Stage}
use Rattle.job_commands.specs.declared.row.Stage.TheVariants as stage
use Rattle.job_book.specs.Contract.{Explains}
use Rattle.job_manager.specs.Value.{ManagerValue}
use Rattle.job_deeds.specs.job_states.declared.job.Job.{Job}
use Rattle.job_deeds.specs.job_states.declared.job.State.{State}
use Rattle.job_deeds.specs.job_states.declared.job.State.TheVariants as state
use Rattle.kvs_core.specs.Agrees.{Agrees}
use Rattle.kvs_core.specs.Posted.{newest_of}
use Rattle.kvs_core.specs.Seen.{primary_heard}
use Rattle.kvs_core.specs.Value.{CoreValue}
use Rattle.job_deeds.specs.kvs_model.Store.{Path}
use Rattle.kvs_rules.specs.Brokers.{heard}
use Rattle.kvs_rules.specs.Log.{Log as Service}
use Rattle.kvs_rules.specs.Namespaces.{Setting, landed, newest_store, primary}
use Rattle.job_deeds.specs.manager_rules.Jobs.{StoredJob}
use Rattle.job_deeds.specs.manager_rules.Keys.{value_at}
use Rattle.job_deeds.specs.manager_rules.declared.why.Why.{Why}
use Rattle.job_deeds.specs.manager_rules.declared.why.Why.TheVariants as why
use Rattle.job_replies.specs.Ready.{job_in}

-- where a store keeps this of a job
abbrev pub key_by : Key → ℕ → Path
key_by key id = key_path (key_of key) id

-- what is said of why a job doesn't run, as a reply
abbrev pub reply_of_why : Why → Reply
reply_of_why (why.Busy ids) = reply.Busy ids
reply_of_why (why.Behind head) = reply.Behind head
reply_of_why why.Held = reply.Held
reply_of_why why.Ready = reply.Ready
reply_of_why (why.NotWaiting where_) = reply.NotWaiting where_
reply_of_why why.NoJob = reply.NoJob

abbrev pub states_of : List StoredJob → List JobState
states_of jobs = map (λ j. record { id = j.id; state = j.job.state }) jobs

-- the newest store has this under a key of a job, where some log tells the core
abbrev pub IsTextAt : ManagerValue → Key → ℕ → Option (List ℕ) → Type 0
IsTextAt manager key id text = (set : Setting) (log : Service) → Agrees manager.core set log
    → value_at (newest_of manager.core) (key_by key id) ≡ text

-- a command that would change the urgency of a job that runs is told that it doesn't wait, and else
-- that it has ended
abbrev pub late_urge : State → Reply
late_urge state.Run = reply.NotWaiting state.Run
late_urge state.Cleanup = reply.NotWaiting state.Cleanup
late_urge _ = reply.Ended

abbrev pub too_late : JobAsk → State → Reply
too_late (ask.Urge label urgency) where_ = late_urge where_
too_late _ where_ = reply.Ended

-- what a command is told of the job of an id at this second
abbrev pub IsSaidOfJob : ManagerValue → ℕ → JobAsk → ℕ → Job → Reply → Type 0
IsSaidOfJob manager now (ask.StateOf label) id job given = given ≡ reply.StateIs job.state
IsSaidOfJob manager now (ask.Info label key) id job given =
    (text : Option (List ℕ)) × (given ≡ reply.Info text) × IsTextAt manager key id text
IsSaidOfJob manager now (ask.Why label) id job given =
    (said : Why) × (given ≡ reply_of_why said) × Explains manager.book now id said
IsSaidOfJob manager now (ask.ResultOf label) id job given = given ≡ reply.EndedWith job.status
IsSaidOfJob manager now asks id job given = given ≡ too_late asks job.state

-- what a command about a label is told of the job that it names, if it names one
abbrev pub IsSaidIf : ManagerValue → ℕ → JobAsk → Option StoredJob → Reply → Type 0
IsSaidIf manager now asks None given = given ≡ reply.NoJob
IsSaidIf manager now asks (Some j) given = IsSaidOfJob manager now asks j.id j.job given

abbrev pub IsSaidOf : Labels → ManagerValue → ℕ → JobAsk → List ℕ → Reply → Type 0
IsSaidOf labels manager now asks label given =
    IsSaidIf manager now asks (job_in labels manager.book.jobs label) given

-- so it is, with the number of the last landing
abbrev pub IsSaidNow : Labels → ManagerValue → ℕ → JobAsk → List ℕ → Reply → Option ℕ → Type 0
IsSaidNow labels manager now asks label given number =
    IsSaidOf labels manager now asks label given × (number ≡ Some (primary_heard manager.core 0))

-- what a command is told at one second that no landing has carried out, and that was issued at
-- another
abbrev pub IsToldOpen : Labels → ManagerValue → ℕ → ℕ → JobAsk → Reply → Option ℕ → Type 0
IsToldOpen labels manager now issued (ask.Submit label urgency needs text) given number = ⊥
IsToldOpen labels manager now issued (ask.Cancel label) given number =
    IsSaidNow labels manager now (ask.Cancel label) label given number
IsToldOpen labels manager now issued (ask.Raise label kind severity note) given number =
    IsSaidNow labels manager now (ask.Raise label kind severity note) label given number
IsToldOpen labels manager now issued (ask.Urge label urgency) given number =
    IsSaidNow labels manager now (ask.Urge label urgency) label given number
IsToldOpen labels manager now issued (ask.StateOf label) given number =
    IsSaidNow labels manager now (ask.StateOf label) label given number
IsToldOpen labels manager now issued (ask.Info label key) given number =
    IsSaidNow labels manager now (ask.Info label key) label given number
IsToldOpen labels manager now issued ask.Jobs given number =
    (given ≡ reply.Jobs (states_of manager.book.jobs))
    × (number ≡ Some (primary_heard manager.core 0))
IsToldOpen labels manager now issued (ask.Why label) given number =
    IsSaidNow labels manager now (ask.Why label) label given number
IsToldOpen labels manager now issued (ask.ResultOf label) given number =
    IsSaidNow labels manager now (ask.ResultOf label) label given number
IsToldOpen labels manager now issued (ask.Watch label) given number =
    IsSaidNow labels manager now (ask.Watch label) label given number
IsToldOpen labels manager now issued (ask.Advance seconds) given number =
    (given ≡ reply.Advanced (issued + seconds)) × (number ≡ None)

-- what a command is told that the landing of this number carried out
abbrev pub IsToldLanded : Labels → JobAsk → ℕ → Reply → Option ℕ → Type 0
IsToldLanded labels (ask.Submit label urgency needs text) landed given number =
    (id : ℕ) × (job_at label labels ≡ Some id) × (given ≡ reply.Submitted id)
    × (number ≡ Some landed)
IsToldLanded labels _ landed given number = (given ≡ reply.Raised) × (number ≡ Some landed)

abbrev pub IsToldAt : Labels → ManagerValue → ℕ → Row → Stage → Reply → Option ℕ → Type 0
IsToldAt labels manager now row stage.Waits given number =
    IsToldOpen labels manager now row.issued row.ask given number
IsToldAt labels manager now row (stage.Landed landing) given number =
    IsToldLanded labels row.ask landing given number

abbrev pub IsTold : Labels → ManagerValue → ℕ → Row → Reply → Option ℕ → Type 0
IsTold labels manager now row given number = IsToldAt labels manager now row row.stage given number

-- what a core says of its newest store, and of what rank 0 and a broker have heard of `primary`
pub record KnowsNewest (core : CoreValue) (rank : ℕ) (inst : Instance) (log : Log) : Type 0 where
  pub newest : newest_store inst.service (service_of log) primary ≡ Some (newest_of core)
  pub last : landed (service_of log) primary ≡ primary_heard core 0
  pub told : heard (service_of log) rank primary ≡ Some (primary_heard core rank)
