use Rattle.std.proofs.Common.{◌≡◌, ℕ, ◌<◌, false}
use Rattle.instance.specs.Steps.{has_answer}
use Rattle.instance.proofs.seats.first_answer.Given as goal

abbrev pub invariant-loop-actor : goal.invariant-loop-actor
invariant-loop-actor l = (a : ℕ) → a < l.actor → has_answer l.services l.seats a ≡ false
