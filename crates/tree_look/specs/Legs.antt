-- How a walk passes the directories along a path, and what it tells at a path's end.
use Rattle.std.specs.Prelude.{◌≡◌, ◌≤◌, ◌<◌, ◌++◌, ◌∷◌, ℕ, Bool, true, false, List, [], length, take, drop, map, Option, Some, None, option_map, Contains, IsSome, ⊤}
use Rattle.fl_digest.specs.declared.BlobRef.{BlobRef}
use Rattle.fl_digest.specs.declared.Hash.{Hash}
use Rattle.kvs_txn.specs.declared.answers.Found.{Found}
use Rattle.kvs_txn.specs.declared.answers.Kind.{Kind}
use Rattle.kvs_txn.specs.declared.answers.Kind.TheVariants as kind
use Rattle.kvs_txn.specs.declared.answers.Listed.{Listed}
use Rattle.kvs_txn.specs.declared.answers.Query.{Query}
use Rattle.kvs_txn.specs.declared.answers.Query.TheVariants as query
use Rattle.kvs_txn.specs.declared.words.Target.{Target}
use Rattle.kvs_model.specs.Store.{Name, Path, Store}
use Rattle.kvs_model.specs.Walk.{stop}
use Rattle.tree_rules.specs.Held.{Table}
use Rattle.kvs_model.specs.OneStore.{own_next}
use Rattle.tree_rules.specs.Needs.{looked_in}
use Rattle.tree_rules.specs.Objects.{Tree, val, valref, dir, dirref, symlink}
use Rattle.tree_rules.specs.Texts.{directory_reference, stored_at}
use Rattle.tree_objects.specs.Level.{tree_of}
use Rattle.tree_objects.specs.declared.object.Object.{Object}
use Rattle.tree_look.specs.Looks.{PassesAll, Misses}
use Rattle.tree_look.specs.declared.legs.Leg.{Leg}
use Rattle.tree_look.specs.declared.legs.Leg.TheVariants as leg
use Rattle.tree_look.specs.declared.legs.Turn.{Turn}
use Rattle.tree_look.specs.declared.legs.Turn.TheVariants as turn

-- the reference of a directory that stands by it
abbrev pub directory_in : Option Tree → Option BlobRef
directory_in None = None
directory_in (Some (val bytes)) = None
directory_in (Some (valref references)) = None
directory_in (Some (dir es)) = None
directory_in (Some (dirref reference)) = Some reference
directory_in (Some (symlink target)) = None

-- the target of a link
abbrev pub target_in : Option Tree → Option Target
target_in None = None
target_in (Some (val bytes)) = None
target_in (Some (valref references)) = None
target_in (Some (dir es)) = None
target_in (Some (dirref reference)) = None
target_in (Some (symlink target)) = Some target

-- what an object is, as a listing shows it
abbrev pub kind_shown : Tree → Kind
kind_shown (val bytes) = kind.Value
kind_shown (valref references) = kind.Value
kind_shown (dir es) = kind.Dir
kind_shown (dirref reference) = kind.Dir
kind_shown (symlink target) = kind.Link

-- a name with its object, as a listing shows it
abbrev pub shown : Name × Tree → Listed
shown e = record { name = e.0; kind = kind_shown e.1 }

-- whether a query leaves a link at which its walk stops, with the whole path walked or not
abbrev pub leaves_link : Query → Bool → Bool
leaves_link query.Get whole = false
leaves_link query.List whole = false
leaves_link query.Link whole = whole

-- the references of the texts in which a walk along a path looks for a name
abbrev pub leg_needs : Hash → Store → Path → List BlobRef
leg_needs hash st path = map (directory_reference hash st) (looked_in st path)

-- a walk along a path stops behind so many components, where this object stands
pub record StopsAt (hash : Hash) (st : Store) (path : Path)
    (count : ℕ) (found : Option Object) : Type 0 where
  pub ends : stop st path ≡ record { place = take count path; rest = drop count path }
  pub stands : option_map tree_of found ≡ stored_at hash st (take count path)

-- what a walk along a path tells that has passed some references before
abbrev pub LegTells : Hash → Store → Path → Table → List BlobRef → List BlobRef → Leg → Type 0
LegTells hash st path texts old new (leg.Needs reference) =
    Misses texts (leg_needs hash st path) old new reference
LegTells hash st path texts old new (leg.Stops count found) =
    PassesAll texts (leg_needs hash st path) old new × StopsAt hash st path count found

-- it stops within the path
abbrev pub StopsWithin : Path → Leg → Type 0
StopsWithin path (leg.Needs reference) = ⊤
StopsWithin path (leg.Stops count found) = count ≤ length path

-- a walk along a path ends where this object stands, and all of the path is walked or some is left
pub record EndsAt (hash : Hash) (st : Store) (path : Path)
    (found : Option Object) (whole : Bool) : Type 0 where
  pub stands : option_map tree_of found ≡ stored_at hash st (stop st path).place
  pub all : whole ≡ true → (stop st path).rest ≡ []
  pub part : whole ≡ false → 0 < length (stop st path).rest

-- where a query's walk goes from the place where it stops on a path
abbrev pub GoesFrom : Hash → Store → Query → Path → Turn → Type 0
GoesFrom hash st asked path (turn.Needs reference) = ⊥
GoesFrom hash st asked path (turn.Follows next) = own_next asked st path ≡ Some next.items
GoesFrom hash st asked path (turn.Ends found whole) =
    (own_next asked st path ≡ None) × EndsAt hash st path found whole

-- how it goes on that has passed some references before
abbrev pub TurnTells : Hash → Store → Query → Path
    → Table → List BlobRef → List BlobRef → Turn → Type 0
TurnTells hash st asked path texts old new (turn.Needs reference) =
    Misses texts (leg_needs hash st path) old new reference
TurnTells hash st asked path texts old new (turn.Follows next) =
    PassesAll texts (leg_needs hash st path) old new
    × GoesFrom hash st asked path (turn.Follows next)
TurnTells hash st asked path texts old new (turn.Ends found whole) =
    PassesAll texts (leg_needs hash st path) old new
    × GoesFrom hash st asked path (turn.Ends found whole)
