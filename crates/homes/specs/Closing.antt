-- What the instances of a run leave at the end of its run.
use Rattle.std.specs.Prelude.{◌≡◌, ℕ, List, ◌++◌, Bool, false, flat_map, is_some, map, not, Some, slice_get, filter}
use Rattle.std.specs.List.{AllByRecursion as Each, range_with_len}
use Rattle.std.specs.Option.{option_map_or}
use Rattle.instance.specs.answers.Chronicle.{Setup}
use Rattle.instance.specs.answers.declared.chronicle.Entry.{Entry}
use Rattle.hierarchy.specs.Closing.{Part}
use Rattle.hierarchy.specs.Stretches.{entered_in}
use Rattle.instance.specs.Agrees.{AgreesOwn}
use Rattle.instance.specs.Makes.{Ends}
use Rattle.instance.specs.Steps.{IsOver}
use Rattle.homes.specs.Homes.{living_at}
use Rattle.homes.specs.declared.homes.Home.{Home}
use Rattle.homes.specs.declared.homes.Place.{Place}

-- where nothing can happen but the end, these replies and the end make each chronicle whole that
-- agrees with the instance
abbrev pub EndSo : Home → List Entry → Type 0
EndSo h left = (set : Setup) (own : List Entry) → AgreesOwn h.instance set own
    → set.work.lines ≡ h.work.lines → IsOver h.work.lines h.instance → Ends set own left

-- behind this the run has what the instance of this number leaves
pub record LeavesBy (h : Home) (number : ℕ) (old new : List Entry) : Type 0 where
  pub left : List Entry
  pub ends : EndSo h left
  pub told : new ≡ old ++ map (entered_in number) left

-- a part is what a living instance leaves
pub record IsLeft (homes : List Home) (part : Part) : Type 0 where
  pub home : Home
  pub here : slice_get homes part.number ≡ Some home
  pub living : home.gone ≡ false
  pub ends : EndSo home part.left

-- a part as the run has it
abbrev pub entered_part : Part → List Entry
entered_part part = map (entered_in part.number) part.left

-- the living instances below this number
abbrev pub living_below : List Home → ℕ → List ℕ
living_below homes n = filter (λ i. is_some (living_at homes i)) (range_with_len 0 n)

-- this is what the living instances below a number leave
pub record AreLeft (homes : List Home) (n : ℕ) (told : List Entry) : Type 0 where
  pub parts : List Part
  pub numbers : map (λ part. part.number) parts ≡ living_below homes n
  pub each : Each (IsLeft homes) parts
  pub entered : told ≡ flat_map entered_part parts

-- whether the instance of an actor was never born
abbrev pub is_unborn : List Place → ℕ → Bool
is_unborn places actor = option_map_or (λ p. not (is_some p.home)) (slice_get places actor) false
