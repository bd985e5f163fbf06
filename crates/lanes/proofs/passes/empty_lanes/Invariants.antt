use Rattle.std.proofs.Common.{◌≡◌, length}
use Rattle.lanes.proofs.passes.empty_lanes.Given as goal

abbrev pub invariant-loop : goal.invariant-loop
invariant-loop g l = record { all : length l.all.items ≡ l.counter }
