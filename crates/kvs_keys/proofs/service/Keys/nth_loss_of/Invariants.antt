use Rattle.std.proofs.Common.{◌≡◌, ◌-◌}
use Rattle.std.specs.Prelude.{flat_map}
use Rattle.std.specs.List.{filter, range_with_len}
use Rattle.kvs_keys.specs.Steps.{can_step}
use Rattle.kvs_keys.specs.Order.{losses}
use Rattle.kvs_keys.specs.Walk.{lost, nth}
use Rattle.kvs_keys.proofs.service.Keys.nth_loss_of.Given as goal

abbrev pub invariant-loop-from : goal.invariant-loop-from
invariant-loop-from l = nth (filter (can_step l.self) (flat_map (lost l.kind l.self.size) (range_with_len l.from (l.self.size - l.from)))) l.left
    ≡ nth (filter (can_step l.self) (losses l.self.size l.kind)) l.number
