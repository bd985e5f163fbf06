use Rattle.std.proofs.Common.{◌++◌, take}
use Rattle.graph_match.proofs.Freeing.{apart_before, rooms_before}
use Rattle.graph_match.proofs.Turns.{inside_at}
use Rattle.graph_match.proofs.graph.take_back.Goals as goal

pub exchange-sum-requires-clause-inside : goal.exchange-sum-requires-clause-inside
exchange-sum-requires-clause-inside c = inside_at c.args.places.now c.args.nodes.now c.loop-node.node-index c.node-item.result c.requires.nodes.inside c.loop-node-test.true c.node-item.is

pub exchange-sum-requires-clause-taken : goal.exchange-sum-requires-clause-taken
exchange-sum-requires-clause-taken c =
    let held = c.requires.left in (
      take c.loop-node.node-index c.args.nodes.now ++ held.0,
      apart_before c.requires.nodes c.loop-node-test.true c.node-item.is held.0 held.1,
      c.loop-node.invariant held.0 held.1 held.2,
    )

pub loop-node-preserved : goal.loop-node-preserved
loop-node-preserved c = λ others apart start.
    let within = c.loop-node-test.true in
    rooms_before c.requires.nodes within c.node-item.is others
    (c.exchange-sum.ensures (take c.loop-node.node-index c.args.nodes.now ++ others) (apart_before c.requires.nodes within c.node-item.is others apart) (c.loop-node.invariant others apart start))
