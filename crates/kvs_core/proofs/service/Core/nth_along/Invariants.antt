use Rattle.std.proofs.Common.{◌≡◌, map}
use Rattle.std.specs.List.{filter}
use Rattle.kvs_core.specs.Steps.{can_step}
use Rattle.kvs_keys.specs.Walk.{between, nth}
use Rattle.kvs_core.specs.Walk.{step_of}
use Rattle.kvs_core.proofs.service.Core.nth_along.Given as goal

abbrev pub invariant-loop-at : goal.invariant-loop-at
invariant-loop-at l = nth (filter (can_step l.self) (map (step_of l.strand) (between l.at l.end))) l.left
    ≡ nth (filter (can_step l.self) (map (step_of l.strand) (between l.first l.end))) l.number
