use Rattle.std.proofs.Common.{◌≡◌, false}
use Rattle.service_tests.proofs.brokers.take_all.Given as goal

abbrev pub invariant-actors : goal.invariant-actors
invariant-actors l = l.core.spent ≡ false
