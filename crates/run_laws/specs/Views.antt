-- What the roots of `primary` tell of the jobs of an instance, the later behind the earlier ones.
use Rattle.std.specs.Prelude.{◌≡◌, ◌<◌, ◌≤◌, ◌^◌, ℕ, List, [], ◌∷◌, ◌++◌, Option, Some, option_and_then}
use Rattle.event_log.specs.declared.event.Event.{Event}
use Rattle.job_states.specs.declared.job.Change.{Change}
use Rattle.job_states.specs.declared.job.Job.{Job}
use Rattle.job_states.specs.Table.{changed}
use Rattle.kvs_model.specs.Store.{Store}
use Rattle.kvs_rules.specs.Log.{Log}
use Rattle.kvs_rules.specs.Namespaces.{Setting, landed, primary, store_after}
use Rattle.manager_rules.specs.Jobs.{IsLogged, IsStored, StoredJob}

-- P of the store at the root of this number
abbrev pub AtRoot : Setting → Log → ℕ → (Store → Type 0) → Type 0
AtRoot set log number P =
    (st : Store) × (store_after set log primary number ≡ Some st) × P st

-- the numbers of a root and of a later one, or of the same one twice
abbrev pub AreRoots : Log → ℕ → ℕ → Type 0
AreRoots log earlier later = (earlier ≤ later) × (later ≤ landed log primary)

-- a job's log at a root is the first part of its log at a later one
abbrev pub LogsGrowWithRoots : Setting → Log → Type 0
LogsGrowWithRoots set log = (earlier later id : ℕ) (events : List Event)
    → AreRoots log earlier later → id < 2 ^ 64
    → AtRoot set log earlier (λ st. IsLogged st id events)
    → (further : List Event) × AtRoot set log later (λ st. IsLogged st id (events ++ further))

-- the job after changes one behind another, if the table allows each of them
abbrev pub after_changes : List Change → Job → Option Job
after_changes [] job = Some job
after_changes (change ∷ changes) job = option_and_then (after_changes changes) (changed change job)

-- what is said of a job later follows from what was said earlier by the table
abbrev pub FollowsByTable : Job → Job → Type 0
FollowsByTable earlier later =
    (changes : List Change) × (after_changes changes earlier ≡ Some later)

-- so does what a later root tells of a job from what an earlier one tells
abbrev pub JobsFollowWithRoots : Setting → Log → Type 0
JobsFollowWithRoots set log = (earlier later : ℕ) (j k : StoredJob)
    → AreRoots log earlier later → k.id ≡ j.id
    → AtRoot set log earlier (λ st. IsStored st j) → AtRoot set log later (λ st. IsStored st k)
    → FollowsByTable j.job k.job
