use Rattle.std.proofs.Common.{◌≡◌, drop}
use Rattle.std.specs.Prelude.{flat_map}
use Rattle.instance.specs.kvs_keys.Walk.{nth}
use Rattle.world.specs.Order.{by_instances, kinds, steps_of}
use Rattle.world.proofs.run.World.nth_of_all.Given as goal

abbrev pub invariant-loop-kind : goal.invariant-loop-kind
invariant-loop-kind l = nth (flat_map (steps_of l.self) (drop l.kind-index kinds)) l.left ≡ nth (by_instances l.self) l.number
