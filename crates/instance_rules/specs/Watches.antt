-- Watches of jobs: what each is fed of its job's log, and what it tells.
use Rattle.std.specs.Prelude.{◌≡◌, ℕ, ◌+◌, ◌<◌, ◌≤◌, ◌^◌, List, Option, Some, None, IfSome, Contains, length, filter_map, sum, if◌then◌else◌}
use Rattle.event_log.specs.declared.event.Event.{Event}
use Rattle.job_states.specs.declared.job.State.TheVariants as state
use Rattle.kvs_model.specs.Store.{Store}
use Rattle.kvs_rules.specs.Brokers.{HasHeard, heard}
use Rattle.kvs_rules.specs.Log.{same_command}
use Rattle.kvs_rules.specs.Namespaces.{primary, store_after}
use Rattle.kvs_rules.specs.Sequence.{latest}
use Rattle.kvs_txn.specs.declared.txn.By.{By}
use Rattle.manager_rules.specs.Jobs.{AreJobsOf, IsLogged, StoredJob}
use Rattle.manager_rules.specs.Limits.{names_shown}
use Rattle.instance_rules.specs.Desks.{Names}
use Rattle.instance_rules.specs.Log.{Fed, Instance, IsOpen, Log, Moment, Watch, before_issue, service_of}

-- ---- what a watch was fed

-- the number of the landing at which a moment feeds the command
abbrev pub fed_at : By → Moment → Option (Option ℕ)
fed_at by (Fed other number first count) =
    if same_command by other then Some (Some number) else None
fed_at by _ = None

-- how many events it feeds it
abbrev pub fed_with : By → Moment → Option ℕ
fed_with by (Fed other number first count) = if same_command by other then Some count else None
fed_with by _ = None

-- the number of the landing at which it was fed last
abbrev pub last_fed : By → Log → Option ℕ
last_fed by log = latest (fed_at by) None log

-- how many events it was fed
abbrev pub fed_in_all : By → Log → ℕ
fed_in_all by log = sum (filter_map (fed_with by) log)

-- ---- which feeds are legal

-- an open watch is fed at a landing that its broker has heard of, later than the last time and no
-- older than what had been heard at the issue: all further events of its job's log, behind those
-- that it was fed
pub record IsLegalFeed (inst : Instance) (log : Log) (by : By) (number first count : ℕ)
    : Type 0 where
  pub label : List ℕ
  pub asks : inst.asks by ≡ Some (Watch label)
  pub waits : IsOpen by log
  pub later : IfSome (last_fed by log) (λ last. last < number)
  pub fresh : IfSome (heard (service_of (before_issue by log)) (inst.rank by) primary)
      (λ known. known ≤ number)
  pub known : HasHeard (service_of log) (inst.rank by) primary number
  pub store : Store
  pub standing : store_after inst.service (service_of log) primary number ≡ Some store
  pub id : ℕ
  pub small : id < 2 ^ 64
  pub names : Names inst log label id
  pub events : List Event
  pub logged : IsLogged store id events
  pub behind : first ≡ fed_in_all by log
  pub all : first + count ≡ length events

-- ---- what a watch tells

-- the job that the label names is over at this landing, the watch was last fed there, and these are
-- the names of its events that are shown
pub record HasWatched (inst : Instance) (log : Log) (by : By)
    (label : List ℕ) (shown : List (List ℕ)) (number : ℕ) : Type 0 where
  pub last : last_fed by log ≡ Some number
  pub store : Store
  pub standing : store_after inst.service (service_of log) primary number ≡ Some store
  pub jobs : List StoredJob
  pub are : AreJobsOf store jobs
  pub j : StoredJob
  pub known : Contains jobs j
  pub names : Names inst log label j.id
  pub over : j.job.state ≡ state.Inactive
  pub events : List Event
  pub logged : IsLogged store j.id events
  pub told : shown ≡ names_shown inst.shown events

-- the watch was fed all that stands in its job's log
pub record IsFedAll (log : Log) (by : By) (store : Store) (id : ℕ) : Type 0 where
  pub events : List Event
  pub logged : IsLogged store id events
  pub all : fed_in_all by log ≡ length events
