-- The services' value, from their fields.
use Rattle.std.specs.Prelude.{◌≡◌, false}
use Rattle.services.specs.declared.services.Services.TheInside.{Inside}
use Rattle.services.specs.Value.{ServicesValue}

abbrev pub value_of : Inside → ServicesValue
value_of w = record { spent = w.spent; size = w.size; jobs = w.jobs }

-- services that can go on: the jobs can, and their core has the brokers of the instance
pub record IsFit (v : ServicesValue) : Type 0 where
  pub jobs : v.jobs.spent ≡ false
  pub jobs_size : v.jobs.manager.core.size ≡ v.size

abbrev pub IsFitInside : Inside → Type 0
IsFitInside w = w.spent ≡ false → IsFit (value_of w)
