-- Workloads that a seed draws.
use Rattle.std.specs.Prelude.{◌≢◌, ◌&&◌, ℕ, List, [], ◌∷◌, Option, Some, None, false, codes, if◌then◌else◌}
use Rattle.std.specs.Str.{bytes_eq}
use Rattle.fl_digest.specs.declared.Hash.TheVariants.{Sha1}
use Rattle.run_options.specs.declared.Options.{Options}
use Rattle.workload.specs.Limits.{most_commands}
use Rattle.workload.specs.Words.{is_number, is_number_within, number_value}
use Rattle.workload.specs.declared.work.Workload.{Workload}
use Rattle.workload_generator.specs.Texts.{generated}
use Rattle.flux_commands.specs.declared.drawing.Generation.{Generation}
use Rattle.flux_commands.specs.Asked.{IsWorkOf}

-- what a seed and a count of 1 to 10,000 draw a workload from
abbrev pub generation_from : List ℕ → List ℕ → Option Generation
generation_from seed count = if is_number seed && is_number_within 1 most_commands count
    then Some (record { seed = number_value seed; count = number_value count }) else None

-- what the words `gen SEED N` draw a workload from
abbrev pub generation_of : List (List ℕ) → Option Generation
generation_of [] = None
generation_of (word ∷ []) = None
generation_of (word ∷ seed ∷ []) = None
generation_of (word ∷ seed ∷ count ∷ []) =
    if bytes_eq word (codes "gen") then generation_from seed count else None
generation_of (word ∷ seed ∷ count ∷ more ∷ words) = None

-- the words of a run whose workload is drawn
abbrev pub AreDrawnWords : List (List ℕ) → Type 0
AreDrawnWords words = generation_of words ≢ None

-- the options of its run: those of `run --size 7`
abbrev pub generated_options : Options
generated_options = record {
  size = 7;
  fanout = 2;
  hash = Sha1;
  shuffle = None;
  losses = 0;
  workers = 1;
  journal = false;
  backfill = false;
}

-- the workload is the one that is drawn
abbrev pub IsDrawn : Generation → Workload → Type 0
IsDrawn g work = IsWorkOf generated_options.size (generated g.seed g.count) work
