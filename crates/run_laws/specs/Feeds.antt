-- What the watches of jobs were fed: each the log of its job, each event once and in order.
use Rattle.std.specs.Prelude.{◌≡◌, ◌<◌, ◌^◌, ℕ, List, [], ◌∷◌, ◌++◌, Option, Some, None, drop, filter_map, take, if◌then◌else◌}
use Rattle.event_log.specs.declared.event.Event.{Event}
use Rattle.kvs_rules.specs.Log.{Log, same_command}
use Rattle.kvs_rules.specs.Namespaces.{Setting}
use Rattle.kvs_txn.specs.declared.txn.By.{By}
use Rattle.job_states.specs.declared.job.State.TheVariants as state
use Rattle.manager_rules.specs.Jobs.{IsLogged, IsStored, StoredJob}
use Rattle.manager_rules.specs.Limits.{names_shown}
use Rattle.instance_rules.specs.Desks.{Names}
use Rattle.instance_rules.specs.Log.{Watch}
use Rattle.instance_rules.specs.Watches.{last_fed}
use Rattle.answers.specs.Chronicle.{Setup, top}
use Rattle.answers.specs.Jobs.{instance_of, job_ask_at, log_in}
use Rattle.answers.specs.Services.{log_of, setting_of}
use Rattle.answers.specs.declared.chronicle.Entry.{Entry}
use Rattle.answers.specs.declared.chronicle.Entry.TheVariants as entry
use Rattle.run_laws.specs.Views.{AtRoot}

-- ---- feeds

-- the number of a root, how many events of its job's log a watch was fed before, and how many now
pub record Feed : Type 0 where
  pub number : ℕ
  pub first : ℕ
  pub count : ℕ

abbrev pub feed_in : By → Entry → Option Feed
feed_in by (entry.Watched actor command number first count) =
    if same_command by (record { actor = actor; command = command })
    then Some (record { number = number; first = first; count = count }) else None
feed_in by _ = None

-- the feeds of a command, the oldest first
abbrev pub feeds_of : By → List Entry → List Feed
feeds_of by c = filter_map (feed_in by) c

-- ---- what they feed

-- these events are what a feed is of: so many of the job's log at its root, behind those before
abbrev pub IsFedWith : Setting → Log → ℕ → Feed → List Event → Type 0
IsFedWith set log id feed events = (all : List Event)
    × AtRoot set log feed.number (λ st. IsLogged st id all)
    × (events ≡ take feed.count (drop feed.first all))

-- and these are what feeds are of, one behind another
abbrev pub AreFed : Setting → Log → ℕ → List Feed → List Event → Type 0
AreFed set log id [] events = events ≡ []
AreFed set log id (feed ∷ feeds) events = (now : List Event) × (later : List Event)
    × (events ≡ now ++ later) × IsFedWith set log id feed now × AreFed set log id feeds later

-- what the watch was fed so far is the whole log of its job at this root
pub record SeesLog (set : Setup) (c : List Entry) (by : By) (number : ℕ) : Type 0 where
  pub label : List ℕ
  pub asks : job_ask_at set.work by ≡ Some (Watch label)
  pub id : ℕ
  pub small : id < 2 ^ 64
  pub names : Names (instance_of set) (log_in set.work c) label id
  pub events : List Event
  pub logged : AtRoot (setting_of set) (log_of set.work top c) number (λ st. IsLogged st id events)
  pub fed : AreFed (setting_of set) (log_of set.work top c) id (feeds_of by c) events

-- so it is of each watch at the root at which it was fed last
abbrev pub WatchesSeeTheirLogs : Setup → List Entry → Type 0
WatchesSeeTheirLogs set c = (by : By) (number : ℕ)
    → last_fed by (log_in set.work c) ≡ Some number → SeesLog set c by number

-- ---- what they tell

-- a watch is told the names, as they are shown, of the events that it was fed: all there are, since
-- its job is over
pub record TellsLog (set : Setup) (c : List Entry) (by : By)
    (shown : List (List ℕ)) (number : ℕ) : Type 0 where
  pub sees : SeesLog set c by number
  pub told : shown ≡ names_shown set.terms.shown sees.events
  pub over : AtRoot (setting_of set) (log_of set.work top c) number (λ st. (j : StoredJob)
      × IsStored st j × (j.id ≡ sees.id) × (j.job.state ≡ state.Inactive))
