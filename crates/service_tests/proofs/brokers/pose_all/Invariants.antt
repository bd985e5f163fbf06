use Rattle.std.proofs.Common.{◌≡◌, false}
use Rattle.service_tests.proofs.brokers.pose_all.Given as goal

abbrev pub invariant-rows : goal.invariant-rows
invariant-rows l = record { ready : l.core.spent ≡ false; size : l.core.size ≡ 4 }
