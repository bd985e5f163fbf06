use Rattle.std.proofs.Common.{◌≡◌, ℕ, ◌<◌, false}
use Rattle.kvs_rules.specs.declared.events.KvsStep.TheVariants as kvs
use Rattle.kvs_keys.specs.Steps.{can_step}
use Rattle.kvs_keys.proofs.service.Keys.first_answer.Given as goal

abbrev pub invariant-loop-broker : goal.invariant-loop-broker
invariant-loop-broker l = (b : ℕ) → b < l.broker → can_step l.self (kvs.Serve b) ≡ false
