-- What watches were fed, which can be fed, and what the log has of it.
use Rattle.std.specs.Prelude.{◌≡◌, ℕ, ◌≤◌, ◌&&◌, ◌++◌, nat_lt, List, [], ◌∷◌, Bool, true, false, Option, Some, None, Contains, filter, find, is_none, length, not, option_and_then, option_map, if◌then◌else◌}
use Rattle.std.specs.Option.{option_map_or}
use Rattle.job_deeds.specs.event_log.declared.event.Event.{Event}
use Rattle.job_deeds.specs.event_log.Logs.{log_text}
use Rattle.job_deeds.specs.kvs_model.Store.{Store}
use Rattle.job_deeds.specs.kvs_txn.declared.txn.By.{By}
use Rattle.job_deeds.specs.manager_rules.Jobs.{AreJobsOf, IsLogged, StoredJob}
use Rattle.job_deeds.specs.manager_rules.Limits.{names_shown}
use Rattle.job_deeds.specs.manager_rules.declared.terms.Shown.{Shown}
use Rattle.kvs_rules.specs.Log.{same_command}
use Rattle.kvs_rules.specs.Namespaces.{primary, store_after}
use Rattle.instance_rules.specs.Desks.{Names}
use Rattle.instance_rules.specs.Log.{Instance, Log, Watch, is_replied, service_of}
use Rattle.instance_rules.specs.Watches.{fed_in_all, last_fed}
use Rattle.job_commands.specs.Rows.{Labels, job_at}
use Rattle.job_commands.specs.declared.ask.JobAsk.{JobAsk}
use Rattle.job_commands.specs.declared.ask.JobAsk.TheVariants as ask
use Rattle.job_manager.specs.Places.{log_seen}
use Rattle.job_manager.specs.Value.{ManagerValue}
use Rattle.answers.specs.declared.chronicle.Reply.TheVariants as reply
use Rattle.job_replies.specs.Ready.{is_inactive}
use Rattle.job_replies.specs.declared.telling.Told.{Told}
use Rattle.kvs_core.specs.Seen.{primary_heard, store_at}
use Rattle.kvs_core.specs.Value.{CoreValue}
use Rattle.job_service.specs.declared.feeds.Feed.{Feed}

-- ---- the feeds of commands

abbrev pub is_feed_of : By → Feed → Bool
is_feed_of by f = same_command by f.by

-- what the command was fed, if it was fed
abbrev pub feed_of : List Feed → By → Option Feed
feed_of feeds by = find (is_feed_of by) feeds

-- how many events that was
abbrev pub fed_before : List Feed → By → ℕ
fed_before feeds by = option_map_or (λ f. f.count) (feed_of feeds by) 0

-- the feeds of the others
abbrev pub without_feed : By → List Feed → List Feed
without_feed by feeds = filter (λ f. not (is_feed_of by f)) feeds

-- the names that the command is to be told, and the number of the root, once its job is over
abbrev pub watched_by : List Feed → By → Option (List (List ℕ) × ℕ)
watched_by feeds by =
    option_and_then (λ f. option_map (λ names. (names, f.number)) f.names) (feed_of feeds by)

-- ---- which can be fed

-- a job that isn't over has a longer log, by a later root that the broker has heard of
abbrev pub goes_on : CoreValue → ℕ → Feed → List ℕ → Bool
goes_on core rank f log = (is_none f.names && nat_lt f.number (primary_heard core rank))
    && nat_lt f.bytes (length log)

-- whether a broker's store has more of a log than the watch was fed
abbrev pub has_more : CoreValue → ℕ → Option Feed → Option (List ℕ) → Bool
has_more core rank feed None = false
has_more core rank None (Some log) = true
has_more core rank (Some f) (Some log) = goes_on core rank f log

-- whether a command of this broker that was fed so can be fed
abbrev pub has_news : Labels → ManagerValue → ℕ → Option Feed → JobAsk → Bool
has_news labels manager rank feed (ask.Watch label) = option_map_or
    (λ id. has_more manager.core rank feed (log_seen manager.core rank id)) (job_at label labels)
    false
has_news labels manager rank feed _ = false

-- ---- a log that is read

-- the watch of this job, at a broker, was fed all that the broker's store has of the log, of which
-- the shown events are told once the job is over
pub record IsFedNow (manager : ManagerValue) (rank id : ℕ) (shown : Shown) (f : Feed) : Type 0 where
  pub number : f.number ≡ primary_heard manager.core rank
  pub store : Store
  pub stands : store_at manager.core rank ≡ Some store
  pub jobs : List StoredJob
  pub are : AreJobsOf store jobs
  pub j : StoredJob
  pub known : Contains jobs j
  pub named : j.id ≡ id
  pub events : List Event
  pub logged : IsLogged store id events
  pub some : 1 ≤ length events
  pub count : f.count ≡ length events
  pub bytes : f.bytes ≡ length (log_text events)
  pub told : f.names ≡ (if is_inactive j.job.state then Some (names_shown shown events) else None)

-- ---- what the log has of it

-- the watch was last fed all that its job's log had at the root of this number
pub record WasFed (inst : Instance) (log : Log) (f : Feed) : Type 0 where
  pub label : List ℕ
  pub asks : inst.asks f.by ≡ Some (Watch label)
  pub last : last_fed f.by log ≡ Some f.number
  pub all : fed_in_all f.by log ≡ f.count
  pub store : Store
  pub standing : store_after inst.service (service_of log) primary f.number ≡ Some store
  pub jobs : List StoredJob
  pub are : AreJobsOf store jobs
  pub j : StoredJob
  pub known : Contains jobs j
  pub names : Names inst log label j.id
  pub events : List Event
  pub logged : IsLogged store j.id events
  pub count : f.count ≡ length events
  pub bytes : f.bytes ≡ length (log_text events)
  pub told : f.names
      ≡ (if is_inactive j.job.state then Some (names_shown inst.shown events) else None)

-- so was each, and no other command that isn't answered was fed
pub record AreFed (feeds : List Feed) (inst : Instance) (log : Log) : Type 0 where
  pub each : (f : Feed) → Contains feeds f → WasFed inst log f
  pub others : (by : By) → is_replied by log ≡ false → feed_of feeds by ≡ None
      → (last_fed by log ≡ None) × (fed_in_all by log ≡ 0)

-- the command is told so
pub record TellsWatched (feeds : List Feed) (by : By) (told : Told) : Type 0 where
  pub names : List (List ℕ)
  pub number : ℕ
  pub watched : watched_by feeds by ≡ Some (names, number)
  pub reply : told.reply ≡ reply.Watched names
  pub numbered : told.number ≡ Some number
