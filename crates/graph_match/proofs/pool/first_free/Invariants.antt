use Rattle.std.proofs.Common.{◌≡◌, take}
use Rattle.graph_match.specs.Spots.{free_ids}
use Rattle.graph_match.proofs.pool.first_free.Given as goal

abbrev pub invariant-loop-spot : goal.invariant-loop-spot
invariant-loop-spot l = l.ids.items ≡ take l.count (free_ids (take l.spot-index l.spots))
