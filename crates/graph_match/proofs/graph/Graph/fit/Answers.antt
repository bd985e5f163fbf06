use Rattle.std.proofs.Common.{refl, sym, ◌∙◌}
use Rattle.std.proofs.lemmas.Bool.{true≢false}
use Rattle.graph_match.proofs.Fitting.{blocked_is, fitting_is, ok_so}
use Rattle.graph_match.proofs.graph.Graph.fit.Goals as goal

pub returns-then-is_busy : goal.returns-then-is_busy
returns-then-is_busy c = ok_so _ _ (λ fit named. blocked_is c.args.spec.now c.self.inside.places c.self.inside.places c.hosts.result.now c.self.inside.live.items c.deref.result.now c.self.inside.expiration c.args.self.now fit c.args.now c.is_busy.result
    refl c.hosts.ensures c.deref.ensures.value c.self.view_is c.self.invariant c.is_busy.ensures c.if-is_busy.true (λ never. true≢false (sym (c.never.ensures.1 never) ∙ c.if-never.false)) named) c.busy.result c.busy.ensures

pub returns : goal.returns
returns c = fitting_is c.args.spec.now c.self.inside.places c.self.inside.places c.self.inside.live.items c.self.inside.expiration c.args.now c.args.self.now c.in_ok-nodes.nodes c.units_from.result
    refl c.self.view_is c.self.invariant c.in_ok-nodes.ensures c.units_from.ensures
