-- An instance as its callers see it.
use Rattle.std.specs.Prelude.{Bool, List}
use Rattle.services.specs.Value.{ServicesValue}
use Rattle.instance.specs.declared.seats.Seat.{Seat}

-- callers read `spent` alone; the rest serves the words of `Steps`, `Order` and `Agrees`
pub record InstanceValue : Type 0 where
  pub spent : Bool
  pub seats : List Seat  -- by actor
  pub services : ServicesValue
