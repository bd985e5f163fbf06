use Rattle.std.proofs.Common.{ℕ, ◌∷◌, ◌++◌, [], List, length, cond, map, sym, ap, ◌∙◌, subst}
use Rattle.job_rules.specs.declared.hold.Hold.{Hold as Held}
use Rattle.job_rules.specs.Fits.{AreWithin, nodes_of, without_nodes}
use Rattle.graph_match.proofs.Fitting.{new_hold}
use Rattle.graph_match.specs.Allotment.{Allotment}
use Rattle.graph_match.specs.Holds.{without_hold}
use Rattle.backfill.specs.declared.reserving.Reservation.{Reservation}
use Rattle.backfill.specs.Held.{held, held_at}
use Rattle.backfill.proofs.Fitting.{keeps_ended, passes_is}
use Rattle.backfill.proofs.Holding.{free_beside, left_again, new_id, nodes_with}
use Rattle.backfill.proofs.reserving.Reservation.keeps.Goals as goal

abbrev with_graph : ℕ → Allotment → Reservation
with_graph second graph = record { second = second; graph = graph }

abbrev with_live : Allotment → List Held → Allotment
with_live g live = record g { live = live }

pub returns-then-not-is_held_at-clause-keeps : goal.returns-then-not-is_held_at-clause-keeps
returns-then-not-is_held_at-clause-keeps c = keeps_ended c.args.head.now c.args._grant.now.nodes c.args.live.now c.args.offer.now c.args._now c.args.self.now.second c.requires.reserved.reserved (sym c.is_held_at.ensures ∙ c.if-not-is_held_at.true)

pub take-requires-clause-free : goal.take-requires-clause-free
take-requires-clause-free c =
    let graph = c.args.self.now.graph in
    let nodes = c.args.offer.now.units.nodes in
    subst (λ grant. AreWithin nodes (map (without_nodes (nodes_of graph.live)) grant)) (sym c.requires.reserved.whole)
    (subst (λ taken. AreWithin nodes (map (without_nodes taken) c.args._grant.now.nodes)) (sym c.requires.reserved.nodes)
    (free_beside c.args.self.now.second c.args._grant.now.nodes c.args.live.now c.args.offer.now c.requires.held))

pub take-requires-clause-new : goal.take-requires-clause-new
take-requires-clause-new c = new_id (length c.args.live.now) c.args.self.now.graph.live c.requires.reserved.ids

pub returns-clause-keeps : goal.returns-clause-keeps
returns-clause-keeps c =
    let graph = c.args.self.now.graph in
    let second = c.args.self.now.second in
    let offer = c.args.offer.now in
    passes_is c.args.head.now c.args._grant.now.nodes c.args.live.now offer c.args._now second c.take.new.self c.has_room-keeps.result
    c.requires.reserved.reserved
    (ap (λ g. g.grant) c.in_ok-take.ensures.taken ∙ c.requires.reserved.whole)
    (ap (λ g. nodes_of g.live) c.in_ok-take.ensures.taken
    ∙ nodes_with (new_hold (length c.args.live.now) offer.units.nodes) graph.live c.requires.reserved.ids
    ∙ ap (λ b. nodes_of graph.live ++ nodes_of (map held (cond b (offer ∷ []) []))) (sym c.if-not-is_held_at.false ∙ c.is_held_at.ensures)
    ∙ ap (λ ns. ns ++ nodes_of (held_at second (offer ∷ []))) c.requires.reserved.nodes)
    c.has_room-keeps.ensures

pub returns-clause-kept : goal.returns-clause-kept
returns-clause-kept c =
    let graph = c.args.self.now.graph in
    let hold = new_hold (length c.args.live.now) c.args.offer.now.units.nodes in
    ap (with_graph c.args.self.now.second)
    (c.give.ensures.given ∙ ap (λ g. with_live g (without_hold (length c.args.live.now) g.live)) c.in_ok-take.ensures.taken
    ∙ ap (with_live graph) (left_again hold graph.live c.requires.reserved.ids))
