use Rattle.std.proofs.Common.{◌∙◌}
use Rattle.graph_match.proofs.Blocking.{rooms_begun}
use Rattle.graph_match.proofs.graph.busy.Goals as goal

pub sift-requires-clause-rooms : goal.sift-requires-clause-rooms
sift-requires-clause-rooms c = rooms_begun c.args.spec.now c.args.places.now c.args.live.now c.deref_mut.result.now c.brings-sum.result c.requires.kept (c.deref_mut.ensures.value ∙ c.in_ok-rooms.ensures) c.brings-sum.ensures
