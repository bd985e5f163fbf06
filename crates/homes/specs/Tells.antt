-- What living instances say of their own chronicles, and what a tick leaves of them.
use Rattle.std.specs.Prelude.{◌≡◌, ◌↔◌, ◌<◌, ◌≤◌, ◌+◌, ℕ, List, Bool, false, All, Contains, IsTrue, Some, None, length, slice_get}
use Rattle.instance.specs.answers.Chronicle.{Setup}
use Rattle.instance.specs.answers.Legal.{HasSettled}
use Rattle.instance.specs.answers.declared.chronicle.Entry.{Entry}
use Rattle.instance.specs.Agrees.{AgreesOwn}
use Rattle.instance.specs.Family.{LivesAs, OfOwn, bearing, birth_of, ends_left, is_due, is_end_due, present, targets_left}
use Rattle.instance.specs.Makes.{PassesTo}
use Rattle.instance.specs.Steps.{IsAtRest, can_answer, can_post}
use Rattle.instance.specs.instance_rules.Family.{HasTarget, Living, OfLiving}
use Rattle.instance.specs.kvs_rules.declared.events.KvsStep.{KvsStep}
use Rattle.instance.specs.services.Steps.{can_step}
use Rattle.instance.specs.manager_rules.Times.{IsEndDue, IsIdle, seconds_ahead}
use Rattle.instance.specs.run_limits.Limits.{most_seconds}
use Rattle.homes.specs.declared.homes.Home.{Home}
use Rattle.homes.specs.declared.homes.Origin.{Origin}

-- P of each that lives
abbrev pub EachLiving : (Home → Type 0) → List Home → Type 0
EachLiving P homes = (i : ℕ) (h : Home) → slice_get homes i ≡ Some h → h.gone ≡ false → P h

-- ---- by a chronicle of its own

-- nothing is due
pub record TellsIdle (h : Home) : Type 0 where
  pub idle : (set : Setup) (own : List Entry) → AgreesOwn h.instance set own
      → OfOwn set own IsIdle

-- its open advances wait for these seconds ahead
pub record TellsTargets (h : Home) : Type 0 where
  pub targets : (set : Setup) (own : List Entry) (l : Living) (target : ℕ)
      → AgreesOwn h.instance set own → LivesAs set own l
      → (HasTarget l target × (present h.instance < target))
      ↔ Contains (targets_left h.instance) target

-- its commands and resources end at these
pub record TellsEnds (h : Home) : Type 0 where
  pub ends : (set : Setup) (own : List Entry) (l : Living) (second : ℕ)
      → AgreesOwn h.instance set own → LivesAs set own l
      → OfLiving l (λ desk. Contains (seconds_ahead desk.scene) second)
      ↔ Contains (ends_left h.instance) second

-- the child of a job is to go
abbrev pub TellsEnd : Home → ℕ → Bool → Type 0
TellsEnd h job shut = (set : Setup) (own : List Entry) → AgreesOwn h.instance set own
    → IsTrue (is_end_due h.instance job shut)
    ↔ OfOwn set own (λ desk. IsEndDue desk.scene (IsTrue shut) job)

-- the parent of a child says whether it is to go
pub record TellsEndIn (homes : List Home) (h : Home) : Type 0 where
  pub due : (o : Origin) (parent : Home) → h.origin ≡ Some o
      → slice_get homes o.parent ≡ Some parent → TellsEnd parent o.job h.shuts

-- it has settled where nothing can be made, and nothing is due where nothing is to be posted
-- and no child is to be born
pub record TellsRest (h : Home) : Type 0 where
  pub rests : (set : Setup) (own : List Entry) → AgreesOwn h.instance set own → IsAtRest h.instance
      → HasSettled set own
  pub free : (set : Setup) (own : List Entry) → AgreesOwn h.instance set own
      → ((s : KvsStep) → can_step h.instance.services s ≡ false)
      → ((actor : ℕ) → can_answer h.instance actor ≡ false)
      → can_post h.instance ≡ false → bearing h.instance ≡ None → is_due h.instance ≡ false

-- what time asks of all
pub record TellAll (homes : List Home) : Type 0 where
  pub idle : EachLiving TellsIdle homes
  pub targets : EachLiving TellsTargets homes
  pub ends : EachLiving TellsEnds homes
  pub goes : EachLiving (TellsEndIn homes) homes

-- ---- a tick

-- time may go on to this second
pub record MayPassTo (second : ℕ) (h : Home) : Type 0 where
  pub idle : is_due h.instance ≡ false
  pub above : present h.instance < second
  pub before : All (λ other. second ≤ other) (ends_left h.instance)
  pub near : second ≤ birth_of h.instance + most_seconds

-- a living instance has gone on to this second, and one that has gone stays as it is
pub record HasPassedTo (second : ℕ) (old new : Home) : Type 0 where
  pub origin : new.origin ≡ old.origin
  pub gone : new.gone ≡ old.gone
  pub work : new.work ≡ old.work
  pub shuts : new.shuts ≡ old.shuts
  pub ready : new.instance.spent ≡ false
  pub makes : old.gone ≡ false → PassesTo old.instance second new.instance

pub record HavePassedTo (second : ℕ) (old new : List Home) : Type 0 where
  pub all : length new ≡ length old
  pub each : (i : ℕ) (h one : Home) → slice_get old i ≡ Some h → slice_get new i ≡ Some one
      → HasPassedTo second h one
