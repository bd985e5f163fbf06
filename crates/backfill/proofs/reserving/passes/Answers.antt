use Rattle.std.proofs.Common.{◌∷◌, ◌++◌, [], map, sym, ap, ◌∙◌, subst}
use Rattle.job_rules.specs.Fits.{AreWithin, nodes_of, without_nodes}
use Rattle.backfill.specs.Held.{held_at}
use Rattle.backfill.specs.Reserved.{Reserves}
use Rattle.backfill.proofs.Fitting.{none_keeps, passes_is}
use Rattle.backfill.proofs.Holding.{free_beside, held_first}
use Rattle.backfill.proofs.reserving.passes.Goals as goal

pub reserve-requires-clause-held : goal.reserve-requires-clause-held
reserve-requires-clause-held c = held_first c.args.grant.now.nodes c.args.live.now (c.args.offer.now ∷ []) c.requires.held

pub graph_at-requires-clause-held : goal.graph_at-requires-clause-held
graph_at-requires-clause-held c = held_first c.args.grant.now.nodes c.args.live.now (c.args.offer.now ∷ []) c.requires.held

pub returns-in_default : goal.returns-in_default
returns-in_default c = none_keeps c.args.head.now c.args.grant.now.nodes c.args.live.now c.args.offer.now c.args.now
    (subst (Reserves c.args.head.now c.args.grant.now.nodes c.args.live.now c.args.now) c.in_default.is c.in_ok-second.ensures)

pub hold_at-requires-clause-free : goal.hold_at-requires-clause-free
hold_at-requires-clause-free c =
    let graph = c.in_ok-graph.graph in
    let nodes = c.args.offer.now.units.nodes in
    subst (λ grant. AreWithin nodes (map (without_nodes (nodes_of graph.live)) grant)) (sym c.in_ok-graph.ensures.grant)
    (subst (λ taken. AreWithin nodes (map (without_nodes taken) c.args.grant.now.nodes)) (sym c.in_ok-graph.ensures.nodes)
    (free_beside c.in-Some.second c.args.grant.now.nodes c.args.live.now c.args.offer.now c.requires.held))

pub returns : goal.returns
returns c = passes_is c.args.head.now c.args.grant.now.nodes c.args.live.now c.args.offer.now c.args.now c.in-Some.second c.hold_at.new.graph c.has_room.result
    (subst (Reserves c.args.head.now c.args.grant.now.nodes c.args.live.now c.args.now) c.in-Some.is c.in_ok-second.ensures)
    (c.in_ok-hold_at.ensures.grant ∙ c.in_ok-graph.ensures.grant)
    (c.in_ok-hold_at.ensures.nodes ∙ ap (λ ns. ns ++ nodes_of (held_at c.in-Some.second (c.args.offer.now ∷ []))) c.in_ok-graph.ensures.nodes)
    c.has_room.ensures
