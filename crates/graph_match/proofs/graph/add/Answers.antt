use Rattle.std.proofs.Common.{◌+◌, ◌++◌, drop}
use Rattle.graph_match.proofs.Freeing.{apart_behind, rooms_behind}
use Rattle.graph_match.proofs.Turns.{inside_at}
use Rattle.graph_match.proofs.graph.add.Goals as goal

pub exchange-sum-requires-clause-inside : goal.exchange-sum-requires-clause-inside
exchange-sum-requires-clause-inside c = inside_at c.args.places.now c.args.nodes.now c.loop-node.node-index c.node-item.result c.requires.nodes.inside c.loop-node-test.true c.node-item.is

pub exchange-sum-requires-clause-taken : goal.exchange-sum-requires-clause-taken
exchange-sum-requires-clause-taken c =
    let held = c.requires.taken in
    let within = c.loop-node-test.true in (
      drop (c.loop-node.node-index + 1) c.args.nodes.now ++ held.0,
      apart_behind c.requires.nodes within c.node-item.is held.0 held.1,
      rooms_behind c.requires.nodes within c.node-item.is held.0 (c.loop-node.invariant held.0 held.1 held.2),
    )

pub loop-node-preserved : goal.loop-node-preserved
loop-node-preserved c = λ others apart start.
    let within = c.loop-node-test.true in
    c.exchange-sum.ensures (drop (c.loop-node.node-index + 1) c.args.nodes.now ++ others) (apart_behind c.requires.nodes within c.node-item.is others apart)
    (rooms_behind c.requires.nodes within c.node-item.is others (c.loop-node.invariant others apart start))
