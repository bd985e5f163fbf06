use Rattle.std.proofs.Common.{◌≡◌, map, take}
use Rattle.services.specs.answers.Jobs.{named_by}
use Rattle.services.specs.job_commands.Asks.{named_of}
use Rattle.instance.proofs.jobs.needs_of.Given as goal

abbrev pub invariant-loop-need : goal.invariant-loop-need
invariant-loop-need l = map named_of l.needs ≡ map named_by (take l.need-index l.depends)
