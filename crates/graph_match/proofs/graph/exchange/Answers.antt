use Rattle.std.proofs.Common.{sym, ap, ◌∙◌, subst}
use Rattle.graph_match.proofs.Freeing.{CanChange, can_exchange, changed_room, exchanged, old_at, room_within}
use Rattle.graph_match.proofs.Turns.{IsRead, node_there, places_rise, read_sets}
use Rattle.graph_match.proofs.graph.exchange.Goals.{After-index-places-at}
use Rattle.graph_match.proofs.graph.exchange.Goals as goal

-- the node and the place of its host
read : (c : After-index-places-at) → IsRead c.args.places.now c.args.node.now c.place_of-at.result c.index-places-at.result
read c = record {
  grant = c.requires.grant;
  inside = c.requires.inside;
  there = c.place_of-at.ensures.within;
  place_is = c.index-places-at.is;
  rank = ap (λ x. x.rank) c.index-places-at.is ∙ c.place_of-at.ensures.rank c.index-places-at.result;
}

pub place_of-at-requires-clause-rising : goal.place_of-at-requires-clause-rising
place_of-at-requires-clause-rising c = places_rise c.args.places.now c.requires.grant

pub place_of-at-requires-clause-there : goal.place_of-at-requires-clause-there
place_of-at-requires-clause-there c = node_there c.args.places.now c.args.node.now c.requires.inside

pub changed-new-requires : goal.changed-new-requires
changed-new-requires c =
    let held = c.requires.taken in
    subst (λ units. CanChange c.args.free (old_at c.args.rooms.now c.place_of-at.result) units) (sym c.count.ensures.count)
    (can_exchange (read (goal.at.changed-new-requires c).After-index-places-at) c.count.ensures.sets c.args.free held.0 held.1 held.2)

pub moved-requires-clause-sets : goal.moved-requires-clause-sets
moved-requires-clause-sets c = read_sets (read (goal.at.moved-requires-clause-sets c).After-index-places-at)

pub moved-requires-clause-old : goal.moved-requires-clause-old
moved-requires-clause-old c = let held = c.requires.taken in (room_within (read (goal.at.moved-requires-clause-old c).After-index-places-at) held.2).0

pub moved-requires-clause-sum : goal.moved-requires-clause-sum
moved-requires-clause-sum c = let held = c.requires.taken in (room_within (read (goal.at.moved-requires-clause-sum c).After-index-places-at) held.2).1

pub returns : goal.returns
returns c = λ others apart start.
    exchanged (read (goal.at.returns c).After-index-places-at) c.count.ensures.sets c.args.free others apart start c.changed-new.result c.moved.result
    (c.changed-new.ensures ∙ ap (λ units. changed_room c.args.free (old_at c.args.rooms.now c.place_of-at.result) units) c.count.ensures.count) c.moved.ensures
