use Rattle.std.proofs.Common.{◌≡◌, map, take}
use Rattle.job_book.proofs.book.ids.Given as goal

abbrev pub invariant-loop-row : goal.invariant-loop-row
invariant-loop-row l = l.ids ≡ map (λ j. j.id) (take l.row-index l.rows)
