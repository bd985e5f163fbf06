use Rattle.graph_match.proofs.Turns.{fresh_more, sets_more}
use Rattle.std.proofs.Common.{◌∙◌}
use Rattle.graph_match.proofs.graph.fresh.Goals as goal

pub loop-node-preserved : goal.loop-node-preserved
loop-node-preserved c = (
  c.in_ok-push.ensures.items ∙ fresh_more c.loop-node.places.items c.args.nodes.now c.loop-node.node-index c.node-item.result c.in_ok-new.field-0 c.loop-node-test.true c.node-item.is c.in_ok-new.ensures.place c.loop-node.invariant.0,
  sets_more c.args.nodes.now c.loop-node.node-index c.node-item.result c.loop-node-test.true c.node-item.is c.in_ok-new.ensures.sets c.loop-node.invariant.1,
)
