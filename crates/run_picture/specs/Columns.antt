-- What a picture shows of a run: at the end of each second each instance that lives then.
use Rattle.std.specs.Prelude.{◌≡◌, ℕ, List, [], ◌∷◌, ◌++◌, Bool, Option, Some, None, filter, is_some, map, if◌then◌else◌}
use Rattle.std.specs.List.{range_with_len}
use Rattle.kvs_model.specs.Store.{Store}
use Rattle.kvs_rules.specs.Brokers.{heard}
use Rattle.kvs_rules.specs.Namespaces.{primary}
use Rattle.kvs_rules.specs.Sequence.{latest}
use Rattle.manager_rules.specs.Jobs.{AreJobsOf, StoredJob}
use Rattle.answers.specs.Chronicle.{Setup, top}
use Rattle.answers.specs.Jobs.{start_of}
use Rattle.answers.specs.Services.{log_of}
use Rattle.answers.specs.declared.chronicle.Entry.{Entry}
use Rattle.answers.specs.declared.chronicle.Entry.TheVariants as entry
use Rattle.run_laws.specs.Jobs.{store_of}
use Rattle.hierarchy.specs.Births.{lives, numbers}
use Rattle.hierarchy.specs.Own.{own_of, setup_in}
use Rattle.run_picture.specs.Cells.{cell_in, places_of}
use Rattle.run_picture.specs.declared.picture.Column.{Column}
use Rattle.run_picture.specs.declared.picture.Place.{Place}
use Rattle.run_picture.specs.declared.picture.Rows.{Rows}
use Rattle.run_picture.specs.declared.picture.Scene.{Scene}

-- ---- the seconds

-- the end of a second: the second, and the chronicle up to there, with all that has landed by then
pub record End : Type 0 where
  pub second : ℕ
  pub past : List Entry

-- the second to which an entry lets time go on, if it does
abbrev pub ticked : Entry → Option ℕ
ticked (entry.Ticked second) = Some second
ticked _ = None

-- the second that it is behind these entries
abbrev pub time_at : Setup → List Entry → ℕ
time_at set c = latest ticked (start_of set) c

-- the end of the second that it is there
abbrev pub end_at : Setup → List Entry → End
end_at set past = record { second = time_at set past; past = past }

-- the ends of seconds among further entries: each comes just before time goes on
abbrev pub ends_in : Setup → List Entry → List Entry → List End
ends_in set past [] = []
ends_in set past (e ∷ more) = (if is_some (ticked e) then end_at set past ∷ [] else [])
    ++ ends_in set (past ++ e ∷ []) more

-- whether the instance lives at an end
abbrev pub sees : ℕ → End → Bool
sees i end = lives end.past i

-- the ends at which the instance lives: those before time goes on, and that of the run
abbrev pub ends_of : Setup → List Entry → ℕ → List End
ends_of set c i = filter (sees i) (ends_in set [] c ++ end_at set c ∷ [])

-- ---- an instance

-- what each broker has heard of `primary`, in the order of the brokers
abbrev pub heard_by : Setup → List Entry → List (Option ℕ)
heard_by set own =
    map (λ broker. heard (log_of set.work top own) broker primary) (range_with_len 0 set.size)

-- a column shows an instance that is given this, as its own chronicle has it: in the newest store
-- of `primary` the live jobs with units at each place, and what each broker has heard of it
pub record IsColumn (set : Setup) (own : List Entry) (places : List Place) (column : Column)
    : Type 0 where
  pub store : Store
  pub standing : store_of set own ≡ Some store
  pub jobs : List StoredJob
  pub are : AreJobsOf store jobs
  pub cells : column.cells ≡ map (cell_in jobs) places
  pub brokers : column.brokers ≡ heard_by set own

-- the column of an instance at the end of a second
pub record IsColumnAt (set : Setup) (i : ℕ) (places : List Place) (end : End) (column : Column)
    : Type 0 where
  pub second : column.second ≡ end.second
  pub shows : IsColumn (setup_in set end.past i) (own_of set end.past i) places column

-- a column for each end
abbrev pub AreColumns : Setup → ℕ → List Place → List End → List Column → Type 0
AreColumns set i places [] [] = Unit {0}
AreColumns set i places (end ∷ ends) (column ∷ columns) =
    IsColumnAt set i places end column × AreColumns set i places ends columns
AreColumns set i places [] (column ∷ columns) = ⊥
AreColumns set i places (end ∷ ends) [] = ⊥

-- a scene shows the instance: a row for each host or unit of its grant, and a column for each
-- second at whose end it lives
pub record IsScene (set : Setup) (c : List Entry) (rows : Rows) (i : ℕ) (scene : Scene)
    : Type 0 where
  pub number : scene.number ≡ i
  pub places : scene.places ≡ places_of rows (setup_in set c i).resources.nodes
  pub columns : AreColumns set i scene.places (ends_of set c i) scene.columns

-- a scene for each of these instances
abbrev pub AreScenes : Setup → List Entry → Rows → List ℕ → List Scene → Type 0
AreScenes set c rows [] [] = Unit {0}
AreScenes set c rows (i ∷ is) (scene ∷ scenes) =
    IsScene set c rows i scene × AreScenes set c rows is scenes
AreScenes set c rows [] (scene ∷ scenes) = ⊥
AreScenes set c rows (i ∷ is) [] = ⊥

-- a picture shows a run: all its instances, in the order of their births
abbrev pub IsPicture : Setup → List Entry → Rows → List Scene → Type 0
IsPicture set c rows scenes = AreScenes set c rows (numbers c) scenes
