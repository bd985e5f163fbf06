use Rattle.std.proofs.Common.{◌≡◌, ◌++◌, drop}
use Rattle.std.specs.Prelude.{option_map}
use Rattle.job_commands.specs.Desks.{needs_of}
use Rattle.job_submissions.proofs.depends.named_needs.Given as goal

abbrev pub invariant-loop-one : goal.invariant-loop-one
invariant-loop-one l = needs_of l.commands.labels l.named ≡ option_map (λ rest. l.needs ++ rest) (needs_of l.commands.labels (drop l.one-index l.named))
