-- What the run of a workload that a seed draws promises.
use Rattle.std.specs.Prelude.{ℕ, List}
use Rattle.world.specs.workload.declared.work.Workload.{Workload}
use Rattle.summaries.specs.Summary.{IsSummary}
use Rattle.flux_commands.specs.declared.drawing.Generation.{Generation}
use Rattle.flux_commands.specs.declared.faults.Run.{Run}
use Rattle.flux_commands.specs.Drawn.{generated_options, IsDrawn}
use Rattle.flux.specs.Runs.{setup_of, IsRunOf}
use Rattle.world.specs.manager_rules.declared.terms.Terms.{Terms}

-- this is a run of the workload that is drawn, as `run --size 7` makes it, and what was written is
-- its summary in the place of its answers
pub record HasSummary (terms : Terms) (g : Generation) (run : Run)
    (text : List ℕ) : Type 0 where
  pub work : Workload
  pub drawn : IsDrawn g work
  pub answers : List ℕ
  pub ran : IsRunOf terms generated_options work run answers
  pub summary : IsSummary (setup_of terms generated_options work) run.chronicle text
