use Rattle.std.proofs.Common.{◌≡◌, ℕ, Some}
use Rattle.std.specs.Prelude.{nat_lt, slice_get, if◌then◌else◌}
use Rattle.homes.specs.Inside.{settled_at}
use Rattle.homes.specs.declared.homes.Place.{Place}
use Rattle.homes.proofs.births.settle.Given as goal

abbrev pub invariant-loop-actor : goal.invariant-loop-actor
invariant-loop-actor l = (k : ℕ) (p : Place) → slice_get l.initial.places k ≡ Some p
    → slice_get l.places k ≡ Some (if nat_lt k l.actor then settled_at l.actors l.label l.number k p else p)
