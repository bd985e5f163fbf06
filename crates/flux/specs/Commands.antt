-- The commands of the program, and what each writes.
use Rattle.std.specs.Prelude.{◌≡◌, ◌⊎◌, ℕ, List, Some, Ok}
use Rattle.run_options.specs.declared.Options.{Options}
use Rattle.flux_tools.specs.Tools.{AreToolWords, HasAnswer}
use Rattle.flux_commands.specs.declared.faults.Run.{Run}
use Rattle.flux_commands.specs.declared.drawing.Generation.{Generation}
use Rattle.flux_commands.specs.Asked.{AreRunWords, run_options}
use Rattle.flux_commands.specs.Drawn.{AreDrawnWords, generation_of}
use Rattle.flux_commands.specs.Sides.{Side}
use Rattle.flux.specs.Generated.{HasSummary}
use Rattle.flux.specs.Runs.{HasRun}
use Rattle.world.specs.manager_rules.declared.terms.Terms.{Terms}

-- the words of a command: of a run, of one whose workload is drawn, or of a tool
abbrev pub AreWords : List (List ℕ) → Type 0
AreWords words = AreRunWords words ⊎ AreDrawnWords words ⊎ AreToolWords words

-- what a command writes: a run what its options ask for of its one chronicle, one whose workload is
-- drawn the summary of its run, a tool the text that it prints
pub record IsOutput (terms : Terms)
    (words : List (List ℕ)) (input : Side) (run : Run) (text : List ℕ) : Type 0 where
  pub answers : (o : Options) → run_options words ≡ Some o → HasRun terms o input run text
  pub summary : (g : Generation) → generation_of words ≡ Some g → HasSummary terms g run text
  pub line : AreToolWords words → HasAnswer words input.before input.after (Ok text)
