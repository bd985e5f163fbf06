use Rattle.std.proofs.Common.{◌≡◌, ◌-◌}
use Rattle.std.specs.Prelude.{flat_map}
use Rattle.std.specs.List.{filter, range_with_len}
use Rattle.kvs_core.specs.Steps.{can_step}
use Rattle.kvs_keys.specs.Walk.{nth, deliveries, sent}
use Rattle.kvs_core.proofs.service.Core.nth_delivery.Given as goal

abbrev pub invariant-loop-from : goal.invariant-loop-from
invariant-loop-from l = nth (filter (can_step l.self) (flat_map (sent l.self.size) (range_with_len l.from (l.self.size - l.from)))) l.left
    ≡ nth (filter (can_step l.self) (deliveries l.self.size)) l.number
