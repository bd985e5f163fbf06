use Rattle.std.proofs.Common.{◌≡◌, false}
use Rattle.service_tests.proofs.brokers.nth_of.Given as goal

abbrev pub invariant-steps : goal.invariant-steps
invariant-steps l = l.core.spent ≡ false
