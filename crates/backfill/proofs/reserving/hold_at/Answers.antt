use Rattle.std.proofs.Common.{◌<◌, ◌+◌, ◌++◌, ◌∷◌, [], cond, map, refl, sym, ap, ◌∙◌, subst}
use Rattle.std.specs.List.{AllByRecursion as Each}
use Rattle.job_rules.specs.Fits.{nodes_of}
use Rattle.backfill.specs.Held.{held}
use Rattle.graph_match.proofs.Fitting.{new_hold}
use Rattle.backfill.proofs.Holding.{below_more, below_with, new_id, nodes_with}
use Rattle.backfill.proofs.reserving.hold_at.Goals as goal

pub take-requires-clause-new : goal.take-requires-clause-new
take-requires-clause-new c = new_id c.args.place c.args.graph.now.live c.requires.new

pub returns-in_ok-take-clause-nodes : goal.returns-in_ok-take-clause-nodes
returns-in_ok-take-clause-nodes c =
    ap (λ g. nodes_of g.live) c.in_ok-take.ensures.taken
    ∙ nodes_with (new_hold c.args.place c.args.hold.now.units.nodes) c.args.graph.now.live c.requires.new
    ∙ ap (λ b. nodes_of c.args.graph.now.live ++ nodes_of (map held (cond b (c.args.hold.now ∷ []) []))) c.if-is_held_at.ensures

pub returns-in_ok-take-clause-ids : goal.returns-in_ok-take-clause-ids
returns-in_ok-take-clause-ids c = subst (λ g. Each (λ h. h.id < c.args.place + 1) g.live) (sym c.in_ok-take.ensures.taken)
    (below_with c.args.place (new_hold c.args.place c.args.hold.now.units.nodes) c.args.graph.now.live refl c.requires.new)

pub returns-else-is_held_at-clause-ids : goal.returns-else-is_held_at-clause-ids
returns-else-is_held_at-clause-ids c = below_more c.args.place c.args.graph.now.live c.requires.new
