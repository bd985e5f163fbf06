use Rattle.std.proofs.Common.{◌≡◌}
use Rattle.workload_generator.specs.Texts.{actor_lines}
use Rattle.workload_generator.proofs.actors.Given as goal

abbrev pub invariant-loop-number : goal.invariant-loop-number
invariant-loop-number l = l.text ≡ actor_lines l.number
