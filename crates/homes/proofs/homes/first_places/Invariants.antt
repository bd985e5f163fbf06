use Rattle.std.proofs.Common.{◌≡◌, ℕ, [], Some, length}
use Rattle.std.specs.Prelude.{slice_get}
use Rattle.instance.specs.answers.Chronicle.{Setup}
use Rattle.homes.specs.Homes.{IsPlace}
use Rattle.homes.specs.declared.homes.Place.{Place}
use Rattle.homes.proofs.homes.first_places.Given as goal

abbrev pub invariant-loop-number : goal.invariant-loop-number
invariant-loop-number l = record {
  long : length l.places.items ≡ l.number;
  each : (set : Setup) → set.work ≡ l.work → (k : ℕ) (p : Place) → slice_get l.places.items k ≡ Some p → IsPlace set [] k p;
}
