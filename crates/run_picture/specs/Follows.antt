-- What is kept of an instance that is followed.
use Rattle.std.specs.Prelude.{◌≡◌, ◌<◌, ◌^◌, ℕ, List, [], ◌∷◌, ◌++◌, Bool, true, false, Option, Some, None, Ok, IfSome, filter, map, replicate, if◌then◌else◌}
use Rattle.kvs_model.specs.History.{after_groups}
use Rattle.kvs_model.specs.Operation.{effect}
use Rattle.kvs_model.specs.Store.{IsStore, Store}
use Rattle.kvs_txn.specs.declared.txn.Group.{Group}
use Rattle.kvs_txn.specs.declared.txn.Scope.TheVariants as scope
use Rattle.manager_rules.specs.Jobs.{AreJobsOf, StoredJob}
use Rattle.manager_rules.specs.Sound.{IsSoundStore}
use Rattle.instance_rules.specs.Desks.{AreDueFrom, IsDueFor}
use Rattle.instance_rules.specs.Log.{Instance, IsInstance, Log, now_of}
use Rattle.answers.specs.Chronicle.{Setup}
use Rattle.answers.specs.declared.chronicle.Entry.{Entry}
use Rattle.run_laws.specs.Jobs.{store_of}
use Rattle.run_laws.specs.Times.{HasTime}
use Rattle.hierarchy.specs.Births.{Birth, birth_in, is_born, lives}
use Rattle.hierarchy.specs.Laws.{AreValid}
use Rattle.hierarchy.specs.Legal.{IsLegalRun}
use Rattle.hierarchy.specs.Own.{brokers_for, own_of, setup_in}
use Rattle.run_picture.specs.Columns.{AreColumns, ends_in, heard_by, sees, time_at}
use Rattle.run_picture.specs.Rows.{AreRowsOf, cell_of}
use Rattle.run_picture.specs.declared.following.Following.{Following}
use Rattle.run_picture.specs.declared.jobs.JobRow.{JobRow}
use Rattle.run_picture.specs.declared.picture.Column.{Column}
use Rattle.run_picture.specs.declared.picture.Place.{Place}

-- the rows keep the jobs of the store
abbrev pub KeepStore : List JobRow → Store → Type 0
KeepStore rows st = (jobs : List StoredJob) → AreJobsOf st jobs → AreRowsOf rows jobs

-- what an instance is when a landing comes: within its ranges, with a sound store
pub record IsReady (inst : Instance) (log : Log) (st : Store) : Type 0 where
  pub valid : IsInstance inst
  pub timed : now_of inst log < 2 ^ 64
  pub store : IsStore st
  pub sound : IsSoundStore inst.grant.nodes st

-- behind a due transaction the new rows keep the jobs, where the old ones did before
abbrev pub KeepGroup : List JobRow → Group → List JobRow → Type 0
KeepGroup old group new = (inst : Instance) (log : Log) (st next : Store) → IsReady inst log st
    → IsDueFor inst log st group group.txn.author → effect st group.txn scope.Primary ≡ Ok next
    → KeepStore old st → KeepStore new next

-- and behind several
abbrev pub KeepGroups : List JobRow → List Group → List JobRow → Type 0
KeepGroups old groups new = (inst : Instance) (log : Log) (st next : Store) → IsReady inst log st
    → AreDueFrom inst log groups st → after_groups scope.Primary groups st ≡ Some next
    → KeepStore old st → KeepStore new next

-- what brokers have heard of `primary` from the start
abbrev pub first_heard : ℕ → List (Option ℕ)
first_heard brokers = replicate brokers (Some 0)

-- what is kept of an instance that is given this agrees with its own chronicle: the rows keep the
-- jobs of its newest store, and it is known what each broker has heard of `primary`
pub record KeepsUp (set : Setup) (own : List Entry) (rows : List JobRow) (known : List (Option ℕ))
    : Type 0 where
  pub jobs : (st : Store) → store_of set own ≡ Some st → KeepStore rows st
  pub brokers : known ≡ heard_by set own

-- ---- in the run

-- the run is legal, what each instance is given is within its ranges, and the seconds have their
-- place in 64 bits
pub record IsRun (set : Setup) (c : List Entry) : Type 0 where
  pub legal : IsLegalRun set c
  pub valid : AreValid set c
  pub timely : HasTime set

-- the cells that are kept, if some are, are those of the rows
abbrev pub IsDrawn : Following → List Place → Type 0
IsDrawn f places = IfSome f.cells (λ cells. cells ≡ map (cell_of f.rows.items) places)

-- the instance is followed up to here, with these rows in its picture
pub record IsFollowed (set : Setup) (past : List Entry) (i brokers : ℕ) (places : List Place)
    (f : Following) : Type 0 where
  pub second : f.second ≡ time_at set past
  pub living : f.lives ≡ lives past i
  pub fresh : is_born past i ≡ false
      → (f.rows.items ≡ []) × (f.heard.items ≡ first_heard brokers)
  pub keeps : lives past i ≡ true
      → KeepsUp (setup_in set past i) (own_of set past i) f.rows.items f.heard.items
  pub drawn : IsDrawn f places
  pub columns : AreColumns set i places (filter (sees i) (ends_in set [] past)) f.columns

-- before anything has happened
pub record IsBegun (is_top : Bool) (brokers : ℕ) (f : Following) : Type 0 where
  pub second : f.second ≡ 0
  pub living : f.lives ≡ is_top
  pub rows : f.rows.items ≡ []
  pub heard : f.heard.items ≡ first_heard brokers
  pub undrawn : f.cells ≡ None
  pub columns : f.columns ≡ []

-- where the entry begins the instance, it has so many brokers
abbrev pub IsGiven : Entry → ℕ → ℕ → Type 0
IsGiven e i brokers = (b : Birth) → birth_in e ≡ Some b → b.child ≡ i → brokers ≡ brokers_for b

-- the column of what is kept, with these cells
abbrev pub column_of : Following → List (List ℕ) → Column
column_of f cells = record { second = f.second; cells = cells; brokers = f.heard.items }

-- with the column of this moment, while the instance lives
abbrev pub with_column : Following → List Place → Following
with_column f places = let cells = map (cell_of f.rows.items) places in
    if f.lives then record f { columns = f.columns ++ column_of f cells ∷ []; cells = Some cells }
    else f

-- behind an entry the new one is followed, where the old one was before
abbrev pub Enters : ℕ → List Place → Entry → Following → Following → Type 0
Enters i places e old new = (set : Setup) (past : List Entry) (brokers : ℕ)
    → IsRun set (past ++ e ∷ []) → IsGiven e i brokers
    → IsFollowed set past i brokers places old
    → IsFollowed set (past ++ e ∷ []) i brokers places new
