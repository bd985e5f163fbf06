use Rattle.std.proofs.Common.{◌≡◌, ◌<◌, length}
use Rattle.lanes.proofs.passes.deal.Given as goal

abbrev pub invariant-loop-pass : goal.invariant-loop-pass
invariant-loop-pass g l = record {
  all : length l.dealt.items ≡ l.fn.lanes;
  inside : l.lane < l.fn.lanes;
}
