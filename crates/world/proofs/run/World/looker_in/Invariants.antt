use Rattle.std.proofs.Common.{◌≡◌, ℕ, ◌<◌, None, true}
use Rattle.world.specs.Looks.{look_at}
use Rattle.world.specs.Order.{is_own}
use Rattle.world.proofs.run.World.looker_in.Given as goal

abbrev pub invariant-loop-actor : goal.invariant-loop-actor
invariant-loop-actor l = (k : ℕ) → k < l.actor → is_own l.count l.lane k ≡ true → look_at l.self k ≡ None
