-- The texts of faults.
use Rattle.std.specs.Prelude.{ℕ, List, ◌++◌, codes, decimal}
use Rattle.workload_reader.specs.declared.faults.LineFault.{LineFault}
use Rattle.workload_reader.specs.declared.faults.LineFault.TheVariants.{NoMemory, TooLong, NotUtf8, NoActor, BadCommand, BadNumber, Limit}

-- a line, and what is said of it
abbrev pub at_line : ℕ → List ℕ → List ℕ
at_line line said = codes "line " ++ decimal line ++ said

-- the text of a fault
abbrev pub fault_text : LineFault → List ℕ
fault_text NoMemory = codes "no memory"
fault_text TooLong = codes "input too long"
fault_text NotUtf8 = codes "input is not UTF-8"
fault_text (NoActor line) = at_line line (codes ": NoActor")
fault_text (BadCommand line) = at_line line (codes ": BadCommand")
fault_text (BadNumber line) = at_line line (codes ": BadNumber")
fault_text (Limit line which) = at_line line (codes ": Limit")
