use Rattle.std.proofs.Common.{◌≡◌, ℕ, ◌<◌, false, true}
use Rattle.world.specs.Order.{is_own}
use Rattle.world.specs.Steps.{can_issue}
use Rattle.world.proofs.run.World.own_issue.Given as goal

abbrev pub invariant-loop-actor : goal.invariant-loop-actor
invariant-loop-actor l = (k : ℕ) → k < l.actor → is_own l.count l.lane k ≡ true → can_issue l.self k ≡ false
