use Rattle.std.proofs.Common.{◌≤◌}
use Rattle.thread_tests.proofs.feeds.raise_to.Given as goal

abbrev pub invariant-loop-number : goal.invariant-loop-number
invariant-loop-number g l = l.herald.number ≤ l.number
