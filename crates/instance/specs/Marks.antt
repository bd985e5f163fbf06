-- Marks of actors, which are made in one pass.
use Rattle.std.specs.Prelude.{◌≡◌, ℕ, ◌≤◌, Bool, false, List, Some, length, slice_get, slice_index_or}
use Rattle.services.specs.Steps.{can_take}
use Rattle.services.specs.Value.{ServicesValue}
use Rattle.instance.specs.declared.seats.Seat.{Seat}
use Rattle.instance.specs.Seats.{last_command}

-- the marks say of which actors the services hold the answer to the open command
pub record AreHeld (services : ServicesValue) (seats : List Seat) (marks : List Bool) : Type 0 where
  pub long : length seats ≤ length marks
  pub each : (actor : ℕ) (seat : Seat) → slice_get seats actor ≡ Some seat
      → slice_index_or marks actor false ≡ can_take services (last_command actor seat)
