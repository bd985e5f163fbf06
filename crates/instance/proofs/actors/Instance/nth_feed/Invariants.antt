use Rattle.std.proofs.Common.{◌≡◌, ◌-◌, length}
use Rattle.std.specs.List.{filter, range_with_len}
use Rattle.services.specs.kvs_keys.Walk.{nth}
use Rattle.instance.specs.Order.{feeds}
use Rattle.instance.specs.Steps.{can_feed}
use Rattle.instance.proofs.actors.Instance.nth_feed.Given as goal

abbrev pub invariant-loop-actor : goal.invariant-loop-actor
invariant-loop-actor l = nth (filter (can_feed l.self) (range_with_len l.actor (length l.self.seats - l.actor))) l.left ≡ nth (feeds l.self) l.number
