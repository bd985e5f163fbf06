use Rattle.std.proofs.Common.{◌≡◌, ◌++◌, map, take, drop}
use Rattle.graph_match.specs.Spots.{marked_at}
use Rattle.graph_match.proofs.pool.mark_all.Given as goal

abbrev pub invariant-loop-spot : goal.invariant-loop-spot
invariant-loop-spot l = l.spots ≡ map (marked_at l.free l.ids) (take l.spot-index l.initial.spots) ++ drop l.spot-index l.initial.spots
