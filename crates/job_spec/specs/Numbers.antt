-- The numbers of faults.
use Rattle.std.specs.Prelude.{ℕ, Option, Some, None}
use Rattle.job_spec.specs.declared.faults.SpecFault.{SpecFault}
use Rattle.job_spec.specs.declared.faults.SpecFault.TheVariants.{NoMemory, NotJson, BadVersion, BadField, BadShape, BadCount, NoSlot, TooLarge}

-- the number by which answers name a fault
abbrev pub number_of : SpecFault → Option ℕ
number_of NoMemory = None
number_of (NotJson fault) = Some 1
number_of BadVersion = Some 2
number_of (BadField place) = Some 3
number_of (BadShape place) = Some 4
number_of (BadCount place) = Some 5
number_of NoSlot = Some 6
number_of TooLarge = Some 7
