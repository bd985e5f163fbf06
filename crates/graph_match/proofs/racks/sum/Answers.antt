use Rattle.std.proofs.Common.{sym, ap₂, ◌∙◌}
use Rattle.graph_match.proofs.Blocks.{cores_of, free_is, free_with, gpus_of}
use Rattle.graph_match.proofs.Turns.{sum_done}
use Rattle.graph_match.proofs.racks.sum.Goals as goal

pub returns : goal.returns
returns c = ap₂ free_with
    (sum_done cores_of c.args.places.now c.loop-place.place-index c.loop-place.cores c.loop-place-test.false c.loop-place.invariant.cores)
    (sum_done gpus_of c.args.places.now c.loop-place.place-index c.loop-place.gpus c.loop-place-test.false c.loop-place.invariant.gpus)
    ∙ sym (free_is c.args.places.now)
