use Rattle.std.proofs.Common.{◌≡◌, take, filter_map}
use Rattle.job_commands.specs.Desks.{asked_in}
use Rattle.job_commands.proofs.commands.all_asked.Given as goal

abbrev pub invariant-loop-row : goal.invariant-loop-row
invariant-loop-row l = l.list ≡ filter_map (asked_in l.labels) (take l.row-index l.rows)
