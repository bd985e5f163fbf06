use Rattle.std.proofs.Common.{◌≡◌, false}
use Rattle.service_tests.proofs.brokers.run.Given as goal

abbrev pub invariant-steps : goal.invariant-steps
invariant-steps l = record { ready : l.core.spent ≡ false; size : l.core.size ≡ l.fn.core.size }

abbrev pub invariant-events : goal.invariant-events
invariant-events l = record { ready : l.core.spent ≡ false; size : l.core.size ≡ l.fn.core.size }
