use Rattle.std.proofs.Common.{◌≡◌, ◌^◌, ◌-◌, min, take}
use Rattle.std.specs.List.{sum_by}
use Rattle.workload.specs.Tallies.{seconds_of}
use Rattle.workload.proofs.tallies.seconds_in.Given as goal

abbrev pub invariant-loop-line : goal.invariant-loop-line
invariant-loop-line l = l.all ≡ min (2 ^ 64 - 1) (sum_by (λ line. seconds_of line.command) (take l.line-index l.lines))
