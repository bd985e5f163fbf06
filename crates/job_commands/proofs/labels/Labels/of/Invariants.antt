use Rattle.job_commands.proofs.Finding.{AreLeft}
use Rattle.job_commands.proofs.labels.Labels.of.Given as goal

abbrev pub invariant-loop-label : goal.invariant-loop-label
invariant-loop-label l = AreLeft l.self l.id l.label-iterator
