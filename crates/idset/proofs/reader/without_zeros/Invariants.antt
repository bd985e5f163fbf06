use Rattle.std.proofs.Common.{◌≡◌, length}
use Rattle.idset.specs.Text.{behind_zeros}
use Rattle.idset.proofs.reader.without_zeros.Given as goal

abbrev pub invariant-loop-rest : goal.invariant-loop-rest
invariant-loop-rest l = behind_zeros l.rest ≡ behind_zeros l.fn.digits

abbrev pub decreases-loop-rest : goal.decreases-loop-rest
decreases-loop-rest l = length l.rest
