-- What the makers of a picture are told, and what they add to it.
use Rattle.std.specs.Prelude.{◌≡◌, ℕ, List, [], ◌∷◌, ◌++◌, Bool, true, Some, map}
use Rattle.resource_set.specs.Units.{units_of_node}
use Rattle.resource_set.specs.declared.node.Node.{Node}
use Rattle.answers.specs.Chronicle.{Setup}
use Rattle.answers.specs.Jobs.{start_of}
use Rattle.answers.specs.declared.chronicle.Entry.{Entry}
use Rattle.hierarchy.specs.Births.{is_born, numbers}
use Rattle.hierarchy.specs.Own.{setup_in}
use Rattle.hierarchy.specs.Whole.{IsWholeRun}
use Rattle.run_picture.specs.Cells.{place_of_host, place_of_unit}
use Rattle.run_picture.specs.Columns.{AreScenes}
use Rattle.run_picture.specs.Follows.{IsRun}
use Rattle.run_picture.specs.declared.picture.Place.{Place}
use Rattle.run_picture.specs.declared.picture.Rows.{Rows}
use Rattle.run_picture.specs.declared.picture.Rows.TheVariants as rows
use Rattle.run_picture.specs.declared.picture.Scene.{Scene}

-- a run that can be shown: it is legal and whole, what its instances are given is within its
-- ranges, and its first second is 0
pub record IsShownRun (set : Setup) (c : List Entry) : Type 0 where
  pub run : IsRun set c
  pub whole : IsWholeRun set c
  pub start : start_of set ≡ 0

-- an instance of the run, and how many brokers it has
pub record IsSubject (set : Setup) (c : List Entry) (i brokers : ℕ) : Type 0 where
  pub born : is_born c i ≡ true
  pub size : brokers ≡ (setup_in set c i).size

-- the rows of one host
abbrev pub place_of_id : List ℕ → Bool → ℕ → Place
place_of_id host is_gpu id =
    record { host = host; unit = Some (record { is_gpu = is_gpu; id = id }) }

abbrev pub places_of_node : Rows → Node → List Place
places_of_node rows.Hosts node = place_of_host node ∷ []
places_of_node rows.Units node = map place_of_unit (units_of_node node)

-- with a scene for each instance that is born before an entry, there is one for each that is born
-- with it
abbrev pub AddsBorn : List Entry → Rows → Entry → List Scene → List Scene → Type 0
AddsBorn c rows e old new = (set : Setup) (past more : List Entry) → IsShownRun set c
    → c ≡ past ++ e ∷ more → AreScenes set c rows (numbers past) old
    → AreScenes set c rows (numbers (past ++ e ∷ [])) new
