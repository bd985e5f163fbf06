use Rattle.std.proofs.Common.{◌<◌, ◌≤◌, ap, sym, subst, ◌∙◌, map, take, drop, ◌++◌, ◌∷◌}
use Rattle.std.specs.List.{AllByRecursion as Each}
use Rattle.job_rules.specs.Fits.{AreWithin, IsWithin, free_of, nodes_of}
use Rattle.graph_match.specs.Holds.{IsNew, with_hold}
use Rattle.graph_match.specs.Places.{node_of}
use Rattle.graph_match.proofs.Fitting.{IsChange, allot, are_within_grant, new_hold, take_change}
use Rattle.graph_match.proofs.graph.Graph.take.Goals.{After-mark_nodes}
use Rattle.graph_match.proofs.graph.Graph.take.Goals as goal

pub mark_nodes-requires-clause-there : goal.mark_nodes-requires-clause-there
mark_nodes-requires-clause-there c =
    let free : AreWithin c.args.units.now.nodes (free_of (map node_of c.self.inside.places) c.self.inside.live.items) = subst (λ v. AreWithin c.args.units.now.nodes (free_of v.grant v.live)) (sym c.self.view_is) c.requires.free in
    subst (Each (IsWithin (map node_of c.self.inside.places))) (sym c.as_slice.ensures) (are_within_grant (nodes_of c.self.inside.live.items) (map node_of c.self.inside.places) c.args.units.now.nodes free).inside

-- what the call changes
change : (c : After-mark_nodes) → IsChange c.self.inside.places c.mark_nodes.new.places c.insert.new.self.items (with_hold (new_hold c.args.id c.args.units.now.nodes) c.self.inside.live.items)
change c = take_change c.self.inside.places c.mark_nodes.new.places c.self.inside.live.items c.insert.new.self.items (new_hold c.args.id c.args.units.now.nodes) c.as_slice.result.now c.hold_of-at.result c.self.invariant
    (subst (λ v. IsNew c.args.id v.live) (sym c.self.view_is) c.requires.new)
    (subst (λ v. AreWithin c.args.units.now.nodes (free_of v.grant v.live)) (sym c.self.view_is) c.requires.free)
    (subst (λ hs. Each (λ h. h.id < c.args.id) (take c.hold_of-at.result hs)) c.deref.ensures.value c.hold_of-at.ensures.before)
    (subst (λ hs. Each (λ h. c.args.id ≤ h.id) (drop c.hold_of-at.result hs)) c.deref.ensures.value c.hold_of-at.ensures.after)
    c.mark_nodes.ensures c.as_slice.ensures
    (c.in_ok-insert.ensures.items ∙ ap (λ ns. take c.hold_of-at.result c.self.inside.live.items ++ new_hold c.args.id ns ∷ drop c.hold_of-at.result c.self.inside.live.items) c.in_ok-nodes.ensures)

pub invariant_of-self-2 : goal.invariant_of-self-2
invariant_of-self-2 c = (change (goal.at.invariant_of-self-2 c).After-mark_nodes).kept

pub returns-clause-taken : goal.returns-clause-taken
returns-clause-taken c =
    let change = change (goal.at.returns-clause-taken c).After-mark_nodes in
    ap (λ g. allot g c.self.inside.expiration c.insert.new.self.items) change.grant
    ∙ ap (λ hs. allot (map node_of c.self.inside.places) c.self.inside.expiration hs) change.live
    ∙ ap (λ v. allot v.grant v.expiration (with_hold (new_hold c.args.id c.args.units.now.nodes) v.live)) c.self.view_is
