-- An instance's value, from its fields.
use Rattle.std.specs.Prelude.{◌≡◌, ◌≤◌, false, length}
use Rattle.instance.specs.declared.actors.Instance.TheInside.{Inside}
use Rattle.instance.specs.Value.{InstanceValue}

abbrev pub value_of : Inside → InstanceValue
value_of w = record { spent = w.spent; seats = w.seats.items; services = w.services }

-- what the code rests on, whatever chronicle agrees
pub record IsFit (v : InstanceValue) : Type 0 where
  pub ready : v.services.spent ≡ false
  pub few : length v.seats ≤ 256

abbrev pub IsFitInside : Inside → Type 0
IsFitInside w = w.spent ≡ false → IsFit (value_of w)
