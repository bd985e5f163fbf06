-- The services of an instance as their callers see them.
use Rattle.std.specs.Prelude.{ℕ, Bool}
use Rattle.job_service.specs.Value.{JobServiceValue}

-- callers read `spent`, `size` and `jobs` alone; the rest serves the words of `Steps` and `Agrees`
pub record ServicesValue : Type 0 where
  pub spent : Bool
  pub size : ℕ
  pub jobs : JobServiceValue
