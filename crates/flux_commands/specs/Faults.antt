-- What the faults of a run mean.
use Rattle.std.specs.Prelude.{◌≡◌, ◌⊎◌, ℕ, ◌<◌, List, Some, length, take}
use Rattle.std.specs.Io.KnownBytes.{Appends}
use Rattle.workload_reader.specs.declared.faults.LineFault.{LineFault}
use Rattle.workload_reader.specs.Reading.{first_fault}
use Rattle.flux_commands.specs.declared.faults.Fault.{Fault}
use Rattle.flux_commands.specs.declared.faults.Fault.TheVariants as fault
use Rattle.run_options.specs.declared.Options.{Options}
use Rattle.flux_commands.specs.Asked.{run_options}
use Rattle.flux_commands.specs.Sides.{Side, HasFailed, IsRead, IsWritten}
use Rattle.flux_tools.specs.Tools.{IsRefused as RefusesTool}

-- the status that a run with this fault ends with
abbrev pub status_of : Fault → ℕ
status_of fault.Nothing = 0
status_of (fault.Line f) = 1
status_of (fault.Tool f) = 1
status_of fault.Words = 2
status_of fault.Read = 3
status_of fault.Memory = 4
status_of (fault.Write n) = 5

-- a text was read of which this is the first fault as a workload's for so many brokers
pub record HasFirstFault (size : ℕ) (input : Side) (fault : LineFault) : Type 0 where
  pub text : List ℕ
  pub read : IsRead input text
  pub first : first_fault size text ≡ Some fault

-- why the source gave no workload: its text is none, it failed, or there was no memory
abbrev pub HasReadCause : ℕ → Side → Fault → Type 0
HasReadCause size input (fault.Line f) = HasFirstFault size input f
HasReadCause size input fault.Read = HasFailed input
HasReadCause size input fault.Memory = Unit {0}
HasReadCause size input _ = ⊥

-- what the sink took of the text: all of it, or a part of it where it failed
abbrev pub IsTaken : Side → List ℕ → Fault → Type 0
IsTaken output text fault.Nothing = IsWritten output text
IsTaken output text (fault.Write n) =
    (n < length text) × Appends output.before output.after (take n text) × HasFailed output
IsTaken output text _ = ⊥

-- a tool refuses the text that it is given
abbrev pub IsToolFault : List (List ℕ) → Side → Fault → Type 0
IsToolFault words input (fault.Tool f) = RefusesTool words input.before input.after f
IsToolFault words input _ = ⊥

-- the text that a run reads has this first fault
abbrev pub IsRefusedText : List (List ℕ) → Side → LineFault → Type 0
IsRefusedText words input f =
    (o : Options) × (run_options words ≡ Some o) × HasFirstFault o.size input f

-- why a command was refused: a run's text is no workload's, or a tool refuses the text that it is
-- given
abbrev pub IsRefused : List (List ℕ) → Side → Fault → Type 0
IsRefused words input (fault.Line f) = IsRefusedText words input f
IsRefused words input fault = IsToolFault words input fault

-- where neither the source nor the sink failed, a command ends well, is refused, or lacks memory
abbrev pub IsComplete : Side → Side → ℕ → Type 0
IsComplete input output status =
    ¬ HasFailed input → ¬ HasFailed output → (status ≡ 0) ⊎ (status ≡ 1) ⊎ (status ≡ 4)

-- a command that is never refused ends well, or lacks memory, or the sink failed
abbrev pub IsUnrefused : ℕ → Type 0
IsUnrefused status = (status ≡ 0) ⊎ (status ≡ 4) ⊎ (status ≡ 5)
