use Rattle.std.proofs.Common.{◌≡◌, ◌*◌, drop, length}
use Rattle.graph_match.specs.Racks.{AreBlocks}
use Rattle.graph_match.proofs.racks.counts.Given as goal

abbrev pub invariant-loop-rest : goal.invariant-loop-rest
invariant-loop-rest l = record {
  rest : l.rest ≡ drop (length l.counts.items * l.width) l.places;
  blocks : AreBlocks l.width l.places l.counts.items;
}

abbrev pub decreases-loop-rest : goal.decreases-loop-rest
decreases-loop-rest l = length l.rest
