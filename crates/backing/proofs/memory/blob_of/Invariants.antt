use Rattle.std.proofs.Common.{◌≡◌, drop}
use Rattle.backing.specs.Writes.{blob_in}
use Rattle.backing.proofs.memory.blob_of.Given as goal

abbrev pub invariant-loop-write : goal.invariant-loop-write
invariant-loop-write l = blob_in l.reference (drop l.write-index l.writes) ≡ blob_in l.reference l.writes
