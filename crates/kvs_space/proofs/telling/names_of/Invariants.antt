use Rattle.std.proofs.Common.{◌≡◌, take}
use Rattle.kvs_rules.specs.Landings.{names_of}
use Rattle.kvs_space.proofs.telling.names_of.Given as goal

abbrev pub invariant-loop-group : goal.invariant-loop-group
invariant-loop-group l = l.names ≡ names_of (take l.group-index l.group-items)
