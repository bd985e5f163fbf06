-- What stays of the jobs of a run.
use Rattle.std.specs.Prelude.{◌≡◌, ◌<◌, ◌^◌, ℕ, List, ◌++◌, Option, Some}
use Rattle.event_log.specs.declared.event.Event.{Event}
use Rattle.kvs_model.specs.Store.{Store}
use Rattle.kvs_rules.specs.Namespaces.{newest_store, primary}
use Rattle.manager_rules.specs.Jobs.{IsLogged}
use Rattle.instance_rules.specs.Legal.{IsSound}
use Rattle.instance_rules.specs.Log.{service_of}
use Rattle.answers.specs.declared.chronicle.Entry.{Entry}
use Rattle.answers.specs.Chronicle.{Setup}
use Rattle.answers.specs.Jobs.{instance_of, log_in}
use Rattle.answers.specs.Services.{setting_of}

-- the store of `primary` after this chronicle
abbrev pub store_of : Setup → List Entry → Option Store
store_of set c = newest_store (setting_of set) (service_of (log_in set.work c)) primary

-- after each first part of the chronicle the newest store is sound
abbrev pub JobsStaySound : Setup → List Entry → Type 0
JobsStaySound set c = (past more : List Entry) → c ≡ past ++ more
    → IsSound (instance_of set) (log_in set.work past)

-- the store after this chronicle keeps these events as the log of the job
abbrev pub HasLog : Setup → List Entry → ℕ → List Event → Type 0
HasLog set c id log = (st : Store) × (store_of set c ≡ Some st) × IsLogged st id log

-- a log that stands there after a first part of the chronicle stands there from then on, with
-- further events behind it, if any
abbrev pub LogsOnlyGrow : Setup → List Entry → Type 0
LogsOnlyGrow set c = (past between more : List Entry) (id : ℕ) (log : List Event)
    → c ≡ past ++ between ++ more → id < 2 ^ 64 → HasLog set past id log
    → (further : List Event) × HasLog set (past ++ between) id (log ++ further)
