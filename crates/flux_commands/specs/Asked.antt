-- What a run is asked for, and the workload that it reads.
use Rattle.std.specs.Prelude.{◌≡◌, ◌≢◌, ℕ, List, [], ◌∷◌, Option, None, codes, if◌then◌else◌}
use Rattle.std.specs.Str.{bytes_eq}
use Rattle.std.specs.Io.KnownBytes.{Consumes, IsAtEnd}
use Rattle.run_options.specs.declared.Options.{Options}
use Rattle.run_options.specs.Words.{options_of}
use Rattle.workload.specs.declared.work.Workload.{Workload}
use Rattle.workload_reader.specs.Reading.{first_fault, spelled}
use Rattle.flux_commands.specs.Sides.{Side}

-- the options of a run of a workload, where the words ask for one
abbrev pub run_options : List (List ℕ) → Option Options
run_options [] = None
run_options (word ∷ words) = if bytes_eq word (codes "run") then options_of words else None

-- the words of a run of a workload
abbrev pub AreRunWords : List (List ℕ) → Type 0
AreRunWords words = run_options words ≢ None

-- the workload is what a text spells for so many brokers
pub record IsWorkOf (size : ℕ) (text : List ℕ) (work : Workload) : Type 0 where
  pub sound : first_fault size text ≡ None
  pub means : work ≡ spelled text

-- the source was read to its end, and the text that was read is the workload's, for so many brokers
pub record IsSpelled (size : ℕ) (input : Side) (work : Workload) : Type 0 where
  pub text : List ℕ
  pub read : Consumes input.before input.after text
  pub ended : IsAtEnd input.after
  pub spelled_so : IsWorkOf size text work
