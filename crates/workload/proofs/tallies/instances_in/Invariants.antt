use Rattle.std.proofs.Common.{◌≡◌, ◌≤◌, ◌+◌, count_by, take}
use Rattle.workload.specs.Tallies.{begins}
use Rattle.workload.proofs.tallies.instances_in.Given as goal

abbrev pub invariant-loop-line : goal.invariant-loop-line
invariant-loop-line l = record {
  counted : l.count ≡ count_by (λ line. begins line.command) (take l.line-index l.lines) + 1;
  few : l.count ≤ l.line-index + 1;
}
