use Rattle.std.proofs.Common.{◌≡◌, ◌++◌, Some, map, take}
use Rattle.kvs_space.proofs.telling.add_names.Given as goal

abbrev pub invariant-loop-by : goal.invariant-loop-by
invariant-loop-by l = l.names ≡ l.initial.names ++ map Some (take l.by-index l.by-items)
