use Rattle.std.proofs.Common.{◌≡◌}
use Rattle.workload_generator.specs.Drawn.{behind, submissions}
use Rattle.workload_generator.specs.Texts.{generated}
use Rattle.workload_generator.proofs.generate.Given as goal

abbrev pub invariant-loop-place : goal.invariant-loop-place
invariant-loop-place l = record {
  written : l.text ≡ generated l.seed l.place;
  drawn : l.draws ≡ behind l.seed l.place;
  counted : l.submissions ≡ submissions l.seed l.place;
}
