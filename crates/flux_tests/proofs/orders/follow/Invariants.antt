use Rattle.std.proofs.Common.{◌≡◌, false}
use Rattle.flux_tests.proofs.orders.follow.Given as goal

abbrev pub invariant-loop : goal.invariant-loop
invariant-loop l = l.world.spent ≡ false
