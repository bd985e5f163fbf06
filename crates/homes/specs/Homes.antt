-- The instances of a run, and where its actors stand.
use Rattle.std.specs.Prelude.{◌≡◌, ◌-◌, ◌^◌, ◌<◌, ◌≤◌, nat_lt, ℕ, List, [], false, true, IsTrue, Option, Some, None, find, length, count_by, option_and_then, option_map, slice_get, slice_index_or, take, if◌then◌else◌}
use Rattle.instance.specs.workload.declared.work.Line.{Line}
use Rattle.instance.specs.kvs_rules.declared.events.KvsStep.{KvsStep}
use Rattle.instance.specs.services.Order.{possible}
use Rattle.instance.specs.services.Steps.{can_step}
use Rattle.instance.specs.answers.Chronicle.{Setup, issues_of, replies_to}
use Rattle.instance.specs.answers.Jobs.{instance_of}
use Rattle.instance.specs.answers.declared.chronicle.Entry.{Entry}
use Rattle.hierarchy.specs.Births.{birth_of, is_at, is_born, is_gone, label_of, numbers}
use Rattle.hierarchy.specs.Families.{living_in}
use Rattle.hierarchy.specs.Own.{own_of, setup_in}
use Rattle.instance.specs.Agrees.{AgreesOwn, is_of}
use Rattle.instance.specs.instance_rules.Log.{IsInstance}
use Rattle.homes.specs.declared.homes.Home.{Home}
use Rattle.homes.specs.declared.homes.Origin.{Origin}
use Rattle.homes.specs.declared.homes.Place.{Place}

-- ---- instances

-- the living instance of a number
abbrev pub if_living : Home → Option Home
if_living h = if h.gone then None else Some h

abbrev pub living_at : List Home → ℕ → Option Home
living_at homes i = option_and_then if_living (slice_get homes i)

-- a living instance stands where its own chronicle leaves it
pub record Lives (set : Setup) (c : List Entry) (i : ℕ) (h : Home) : Type 0 where
  pub shuts : h.shuts ≡ (living_in set c i).shuts
  pub agrees : AgreesOwn h.instance (setup_in set c i) (own_of set c i)

-- whose child an instance is
abbrev pub origin_in : List Entry → ℕ → Option Origin
origin_in c i = option_map
    (λ b. record { parent = b.parent; job = b.job; label = b.label }) (birth_of c i)

-- an instance that was born is the one of its number in the chronicle
pub record IsHome (set : Setup) (c : List Entry) (i : ℕ) (h : Home) : Type 0 where
  pub origin : h.origin ≡ origin_in c i
  pub gone : h.gone ≡ is_gone c i
  pub work : h.work ≡ (setup_in set c i).work
  pub ready : h.instance.spent ≡ false
  pub lives : h.gone ≡ false → Lives set c i h

-- the machines of all that were born aren't spent
abbrev pub AreReady : List Home → Type 0
AreReady homes = (i : ℕ) (h : Home) → slice_get homes i ≡ Some h → h.instance.spent ≡ false

-- the services of each instance list a step where they can make one
abbrev pub ListTurns : List Home → Type 0
ListTurns homes = (i : ℕ) (h : Home) → slice_get homes i ≡ Some h
    → possible h.instance.services ≡ [] → (s : KvsStep) → can_step h.instance.services s ≡ false

-- what each instance that was born is given is within its ranges
abbrev pub AreValid : Setup → List Entry → Type 0
AreValid set c = (i : ℕ) → IsTrue (is_born c i) → IsInstance (instance_of (setup_in set c i))

-- all that were born, by their numbers, which have 32 bits
pub record AreHomes (set : Setup) (c : List Entry) (homes : List Home) : Type 0 where
  pub few : length homes < 2 ^ 32
  pub all : length homes ≡ length (numbers c)
  pub each : (i : ℕ) (h : Home) → slice_get homes i ≡ Some h → IsHome set c i h

-- ---- actors

-- the number of an actor's instance, once that is born
abbrev pub home_in : Setup → List Entry → ℕ → Option ℕ
home_in set c actor = find (λ i. is_at set.work.actors (label_of c i) actor) (numbers c)

-- the place of the next line of an actor, of whose lines so many are behind it
pub record IsNextLine (lines : List Line) (actor issued next : ℕ) : Type 0 where
  pub within : next ≤ length lines
  pub passed : count_by (is_of actor) (take next lines) ≡ issued
  pub here : (d : Line) → next < length lines → (slice_index_or lines next d).actor ≡ actor

-- how many of an actor's commands have their reply: all that are issued, but for one that waits
abbrev pub answered : Place → ℕ
answered p = if p.waits then p.issued - 1 else p.issued

-- what the chronicle says of an actor's place
pub record IsPlace (set : Setup) (c : List Entry) (actor : ℕ) (p : Place) : Type 0 where
  pub home : p.home ≡ home_in set c actor
  pub issued : count_by (issues_of actor) c ≡ p.issued
  pub next : IsNextLine set.work.lines actor p.issued p.next
  pub begun : p.waits ≡ true → 0 < p.issued
  pub replied : (k : ℕ) → count_by (replies_to (record { actor = actor; command = k })) c
      ≡ (if nat_lt k (answered p) then 1 else 0)

-- the places of all actors
pub record ArePlaces (set : Setup) (c : List Entry) (places : List Place) : Type 0 where
  pub all : length places ≡ length set.work.actors
  pub each : (actor : ℕ) (p : Place) → slice_get places actor ≡ Some p → IsPlace set c actor p
