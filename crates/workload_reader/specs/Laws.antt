-- What the laws say of the faults of a text.
use Rattle.std.specs.Prelude.{◌≡◌, ℕ, ◌+◌, List, ◌∷◌, ◌++◌, Some, None, length}
use Rattle.outcomes.specs.Outcomes.{first_of}
use Rattle.workload_reader.specs.Lines.{TextLine}
use Rattle.workload.specs.Laws.{empty}
use Rattle.workload_reader.specs.Reading.{fault_in, line_faults, with_lines}
use Rattle.workload_reader.specs.declared.faults.LineFault.{LineFault}

-- in these lines this is the first fault: the lines before one have none, and it is that line's
-- first
pub record IsFirstFault (size : ℕ) (all : List TextLine) (fault : LineFault) : Type 0 where
  pub before : List TextLine
  pub line : TextLine
  pub after : List TextLine
  pub cut : all ≡ before ++ line ∷ after
  pub sound : fault_in size empty 1 before ≡ None
  pub fault_is : first_of (line_faults size (with_lines empty before) (length before + 1) line)
      ≡ Some fault
