use Rattle.std.proofs.Common.{◌≡◌, false}
use Rattle.service_tests.proofs.content_commands.settle.Given as goal

abbrev pub invariant-rounds : goal.invariant-rounds
invariant-rounds l = record { ready : l.service.spent ≡ false; size : l.service.size ≡ l.fn.service.size }

abbrev pub invariant-steps : goal.invariant-steps
invariant-steps l = record { ready : l.service.spent ≡ false; size : l.service.size ≡ l.fn.service.size }
