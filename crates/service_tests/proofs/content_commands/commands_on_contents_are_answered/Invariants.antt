use Rattle.std.proofs.Common.{◌≡◌, false}
use Rattle.service_tests.proofs.content_commands.commands_on_contents_are_answered.Given as goal

abbrev pub invariant-commands : goal.invariant-commands
invariant-commands g l = record { ready : l.service.spent ≡ false; size : l.service.size ≡ 4 }
