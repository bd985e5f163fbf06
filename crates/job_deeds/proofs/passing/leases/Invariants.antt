use Rattle.std.proofs.Common.{◌≡◌, take}
use Rattle.job_deeds.specs.Passing.{leases_of}
use Rattle.job_deeds.proofs.passing.leases.Given as goal

abbrev pub invariant-loop-row : goal.invariant-loop-row
invariant-loop-row l = l.live.items ≡ leases_of (take l.row-index l.rows)
