use Rattle.std.proofs.Common.{ap, sym, subst, ◌∙◌, map}
use Rattle.graph_match.specs.Holds.{IsNew, without_hold}
use Rattle.graph_match.specs.Places.{node_of}
use Rattle.graph_match.proofs.Fitting.{IsChange, allot, give_change, hold_id, hold_in, hold_within}
use Rattle.graph_match.proofs.Holds.{unchanged}
use Rattle.graph_match.proofs.graph.Graph.give.Goals.{After-mark_nodes}
use Rattle.graph_match.proofs.graph.Graph.give.Goals as goal

pub returns-in-None-clause-given : goal.returns-in-None-clause-given
returns-in-None-clause-given c = ap (λ hs. allot c.args.self.now.grant c.args.self.now.expiration hs)
    (sym (unchanged c.args.id c.args.self.now.live (subst (IsNew c.args.id) (c.deref.ensures.value ∙ ap (λ v. v.live) c.self.view_is) c.in-None.ensures.none)))

pub mark_nodes-requires-clause-there : goal.mark_nodes-requires-clause-there
mark_nodes-requires-clause-there c = hold_within c.self.inside.places c.self.inside.live.items c.leave-hold.result c.as_slice.result.now c.in-Some.at c.self.invariant (hold_in _ _ c.in-Some.at c.deref.ensures.value c.in-Some.ensures.some.0) c.leave-hold.ensures.job c.as_slice.ensures

-- what the call changes
change : (c : After-mark_nodes) → IsChange c.self.inside.places c.mark_nodes.new.places c.leave-hold.new.live.items (without_hold c.args.id c.self.inside.live.items)
change c = give_change c.self.inside.places c.mark_nodes.new.places c.self.inside.live.items c.leave-hold.new.live.items c.leave-hold.result c.as_slice.result.now c.in-Some.at c.args.id c.self.invariant
    (hold_in _ _ c.in-Some.at c.deref.ensures.value c.in-Some.ensures.some.0) c.leave-hold.ensures.job (hold_id _ _ c.in-Some.at c.args.id c.leave-hold.result c.deref.ensures.value c.in-Some.ensures.some.1 c.leave-hold.ensures.job)
    c.mark_nodes.ensures c.as_slice.ensures c.leave-hold.ensures.rest

pub invariant_of-self : goal.invariant_of-self
invariant_of-self c = (change (goal.at.invariant_of-self c).After-mark_nodes).kept

pub returns-in-Some-clause-given : goal.returns-in-Some-clause-given
returns-in-Some-clause-given c =
    let change = change (goal.at.returns-in-Some-clause-given c).After-mark_nodes in
    ap (λ g. allot g c.self.inside.expiration c.leave-hold.new.live.items) change.grant
    ∙ ap (λ hs. allot (map node_of c.self.inside.places) c.self.inside.expiration hs) change.live
    ∙ ap (λ v. allot v.grant v.expiration (without_hold c.args.id v.live)) c.self.view_is
