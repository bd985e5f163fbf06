use Rattle.std.proofs.Common.{◌≡◌, drop}
use Rattle.std.specs.Prelude.{flat_map}
use Rattle.std.specs.List.{enumerate_from}
use Rattle.instance.specs.kvs_keys.Walk.{nth}
use Rattle.world.specs.Order.{steps_at, steps_of}
use Rattle.world.proofs.run.World.nth_of.Given as goal

abbrev pub invariant-loop-instance : goal.invariant-loop-instance
invariant-loop-instance l = nth (flat_map (steps_at l.self l.kind) (drop l.instance (enumerate_from 0 l.self.homes))) l.left ≡ nth (steps_of l.self l.kind) l.number
