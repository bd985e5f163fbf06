use Rattle.std.proofs.Common.{arith, rules}
use Rattle.std.proofs.lemmas.List.Edits.{map_over_more}
use Rattle.graph_match.specs.Spots.{marked_at}
use Rattle.graph_match.proofs.pool.mark_all.Goals as goal

pub loop-spot-preserved : goal.loop-spot-preserved
loop-spot-preserved c = rw c.marked.ensures (map_over_more (marked_at c.args.free c.args.ids.now) c.args.spots.now c.loop-spot.spots c.loop-spot.spot-index _ (omega arith) c.loop-spot.invariant (search rules))
