-- Which instances go with one, and what their ends leave of the instances and the places.
use Rattle.std.specs.Prelude.{◌≡◌, ℕ, ◌<◌, ◌==◌, ◌&&◌, ◌||◌, not, List, [], Bool, false, Option, Some, length, option_and_then, option_map, slice_get, slice_index_or, if◌then◌else◌}
use Rattle.std.specs.Option.{option_map_or}
use Rattle.instance.specs.workload.declared.work.Actor.{Actor}
use Rattle.instance.specs.answers.declared.chronicle.Entry.{Entry}
use Rattle.instance.specs.answers.declared.chronicle.Entry.TheVariants as entry
use Rattle.instance.specs.answers.Chronicle.{Setup}
use Rattle.hierarchy.specs.Births.{Birth, is_at}
use Rattle.hierarchy.specs.Own.{child_setup}
use Rattle.instance.specs.Agrees.{AgreesOwn}
use Rattle.homes.specs.declared.homes.Home.{Home}
use Rattle.homes.specs.declared.homes.Origin.{Origin}
use Rattle.homes.specs.declared.homes.Place.{Place}

-- ---- ends

-- each instance but the top is born behind its parent
abbrev pub AreRising : List Home → Type 0
AreRising homes = (i : ℕ) (h : Home) (o : Origin) → slice_get homes i ≡ Some h
    → h.origin ≡ Some o → o.parent < i

-- whether the parent of this origin is marked
abbrev pub has_marked : List Bool → Option Origin → Bool
has_marked marks origin = option_map_or (λ o. slice_index_or marks o.parent false) origin false

-- those are marked that live and are the instance of this number, or have their parent marked
pub record AreInside (number : ℕ) (homes : List Home) (marks : List Bool) : Type 0 where
  pub all : length marks ≡ length homes
  pub each : (i : ℕ) (h : Home) → slice_get homes i ≡ Some h → slice_index_or marks i false
      ≡ (not h.gone && ((i == number) || has_marked marks h.origin))

-- the end of an instance, if it has an origin
abbrev pub end_of : ℕ → Home → Option Entry
end_of i h = option_map (λ o. entry.Gone i o.parent o.job h.shuts) h.origin

abbrev pub end_at : List Home → ℕ → Option Entry
end_at homes i = option_and_then (end_of i) (slice_get homes i)

-- those that are marked have gone
pub record HaveGone (marks : List Bool) (old new : List Home) : Type 0 where
  pub all : length new ≡ length old
  pub each : (i : ℕ) (h : Home) → slice_get old i ≡ Some h → slice_get new i
      ≡ Some (record h { gone = h.gone || slice_index_or marks i false })

-- ---- a birth

-- the home of the child that this birth tells, to which nothing has happened
pub record IsChildHome (set : Setup) (b : Birth) (h : Home) : Type 0 where
  pub origin : h.origin ≡ Some (record { parent = b.parent; job = b.job; label = b.label })
  pub work : h.work ≡ (child_setup set b).work
  pub shuts : h.shuts ≡ false
  pub gone : h.gone ≡ false
  pub ready : h.instance.spent ≡ false
  pub agrees : AgreesOwn h.instance (child_setup set b) []

-- the place of an actor, where the actors with this label stand in the instance of this number
abbrev pub settled_at : List Actor → List ℕ → ℕ → ℕ → Place → Place
settled_at actors label number actor p =
    if is_at actors (Some label) actor then record p { home = Some number } else p

-- the actors with this label stand in the instance of this number now
pub record AreSettled (actors : List Actor) (label : List ℕ) (number : ℕ)
    (old new : List Place) : Type 0 where
  pub all : length new ≡ length old
  pub each : (actor : ℕ) (p : Place) → slice_get old actor ≡ Some p
      → slice_get new actor ≡ Some (settled_at actors label number actor p)
