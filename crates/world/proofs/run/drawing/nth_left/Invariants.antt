use Rattle.std.proofs.Common.{◌≡◌, ◌-◌, length}
use Rattle.std.specs.List.{filter, range_with_len}
use Rattle.instance.specs.kvs_keys.Walk.{nth}
use Rattle.world.specs.Order.{left_in, waits_in}
use Rattle.world.proofs.run.drawing.nth_left.Given as goal

abbrev pub invariant-loop-actor : goal.invariant-loop-actor
invariant-loop-actor l = nth (filter (waits_in l.places l.instance) (range_with_len l.actor (length l.places - l.actor))) l.left ≡ nth (left_in l.places l.instance) l.number
