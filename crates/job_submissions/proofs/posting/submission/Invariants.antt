use Rattle.std.proofs.Common.{ℕ, ◌<◌, get_or}
use Rattle.job_commands.specs.declared.row.Row.{Row}
use Rattle.job_submissions.specs.Made.{MakesNone}
use Rattle.job_submissions.proofs.posting.submission.Given as goal

abbrev pub invariant-loop-row : goal.invariant-loop-row
invariant-loop-row l = (k : ℕ) (d : Row) → k < l.row-index → MakesNone l.limits l.commands.labels l.book.jobs (get_or l.commands.rows k d)
