use Rattle.std.proofs.Common.{◌≡◌, ◌-◌, length}
use Rattle.std.specs.List.{filter, range_with_len}
use Rattle.services.specs.kvs_keys.Walk.{nth}
use Rattle.instance.specs.Order.{answers}
use Rattle.instance.specs.Steps.{can_answer}
use Rattle.instance.proofs.actors.Instance.nth_answer.Given as goal

abbrev pub invariant-loop-actor : goal.invariant-loop-actor
invariant-loop-actor l = nth (filter (can_answer l.self) (range_with_len l.actor (length l.self.seats - l.actor))) l.left ≡ nth (answers l.self) l.number
