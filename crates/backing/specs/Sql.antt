-- A keeper over a file.
use Rattle.std.specs.Prelude.{◌≡◌, ℕ, Bool, false, Result, IsErr}

-- whether the file could be opened, and the faults that were counted
pub record FileKept : Type 0 where
  pub is_open : Bool
  pub faults : ℕ

-- where the file couldn't be opened every call fails, and that stays so
pub record FailsClosed {T E : Type 0} (before now : FileKept) (result : Result T E) : Type 0 where
  pub fails : before.is_open ≡ false → IsErr result
  pub stays : now.is_open ≡ before.is_open
