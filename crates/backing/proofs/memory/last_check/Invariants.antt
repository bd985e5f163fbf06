use Rattle.std.proofs.Common.{◌≡◌, take}
use Rattle.backing.specs.Writes.{check_in}
use Rattle.backing.proofs.memory.last_check.Given as goal

abbrev pub invariant-loop-write : goal.invariant-loop-write
invariant-loop-write l = l.last ≡ check_in (take l.write-index l.writes)
