use Rattle.std.proofs.Common.{◌≡◌, map, sym, subst, get_or, ◌+◌, arith}
use Rattle.std.specs.Prelude.{Contains}
use Rattle.std.specs.List.Sorted.{IsStrictlyIncreasing}
use Rattle.std.proofs.lemmas.List.{get_or_default, length-map}
use Rattle.job_rules.specs.Fits.{HasIdSets}
use Rattle.graph_match.specs.declared.place.Place.{Place}
use Rattle.graph_match.specs.Places.{node_of}
use Rattle.graph_match.proofs.Blocks.{blank}
use Rattle.graph_match.proofs.Counting.{grant_length}
use Rattle.graph_match.proofs.Skips.{each_unmapped}
use Rattle.graph_match.proofs.Turns.{IsRead, IsTurn, inside_at, node_there, places_rise, rank_at, turn_done, turn_grant, turn_inside, turn_more, within_now}
use Rattle.graph_match.proofs.graph.mark_nodes.Goals.{After-mark}
use Rattle.graph_match.proofs.graph.mark_nodes.Goals as goal

-- the host whose units are marked
abbrev place : (c : After-mark) → Place
place c = get_or c.loop-node.places c.place_of-at.result blank

read : (c : After-mark) → IsRead c.loop-node.places c.node-item.result c.place_of-at.result (place c)
read c =
    let there = within_now _ _ _ c.hosts.ensures c.place_of-at.ensures.within in
    let is : place c ≡ get_or c.loop-node.places c.place_of-at.result (place c) = get_or_default c.loop-node.places c.place_of-at.result blank (place c) there in
    record {
      grant = turn_grant c.loop-node.invariant c.requires.grant;
      inside = inside_at _ _ _ _ (turn_inside c.loop-node.invariant c.requires.there) c.loop-node-test.true c.node-item.is;
      there = there;
      place_is = is;
      rank = rank_at _ _ _ _ _ c.hosts.ensures c.place_of-at.ensures.rank is;
    }

pub place_of-at-requires-clause-rising : goal.place_of-at-requires-clause-rising
place_of-at-requires-clause-rising c = subst (λ ps. IsStrictlyIncreasing (map (λ p. p.rank) ps)) (sym c.hosts.ensures) (places_rise c.loop-node.places (turn_grant c.loop-node.invariant c.requires.grant))

pub place_of-at-requires-clause-there : goal.place_of-at-requires-clause-there
place_of-at-requires-clause-there c = subst (λ ps. Contains (map (λ p. p.rank) ps) c.node-item.result.rank) (sym c.hosts.ensures)
    (node_there c.loop-node.places c.node-item.result (inside_at _ _ _ _ (turn_inside c.loop-node.invariant c.requires.there) c.loop-node-test.true c.node-item.is))

pub mark-requires-clause-there : goal.mark-requires-clause-there
mark-requires-clause-there c = within_now _ _ _ c.hosts.ensures c.place_of-at.ensures.within

pub mark-requires-clause-sets : goal.mark-requires-clause-sets
mark-requires-clause-sets c = each_unmapped HasIdSets node_of c.loop-node.places (let grant = turn_grant c.loop-node.invariant c.requires.grant in grant.sets)

pub mark-requires-clause-few : goal.mark-requires-clause-few
mark-requires-clause-few c = omega (arith, grant_length (map node_of c.loop-node.places) (turn_grant c.loop-node.invariant c.requires.grant), length-map c.loop-node.places node_of)

pub loop-node-preserved : goal.loop-node-preserved
loop-node-preserved c =
    let s = (goal.at.loop-node-preserved c).After-mark in
    subst (λ ps. IsTurn c.args.free c.args.nodes.now c.args.places.now ps (c.loop-node.node-index + 1)) (sym (c.mark.ensures blank)) (turn_more c.loop-node.invariant c.loop-node-test.true c.node-item.is (read s))

pub returns : goal.returns
returns c = turn_done c.loop-node-test.false c.loop-node.invariant
