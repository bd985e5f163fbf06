use Rattle.std.proofs.Common.{◌≡◌, ◌∙◌, ◌+◌, ◌-◌, ◌*◌, ◌/◌, min, refl, ap, sym, subst, map}
use Rattle.std.specs.List.{filter}
use Rattle.kvs_rules.specs.Brokers.{parent}
use Rattle.kvs_rules.specs.declared.events.KvsStep.TheVariants as kvs
use Rattle.kvs_keys.specs.Sound.{IsSound}
use Rattle.kvs_keys.specs.Steps.{can_step}
use Rattle.kvs_keys.specs.Walk.{between, nth}
use Rattle.kvs_keys.proofs.Links.{sent-parts}
use Rattle.kvs_keys.proofs.Walking.{behind, within}
use Rattle.kvs_keys.proofs.service.Keys.nth_sent.Goals as goal

pub returns-in-Ok-clause-value : goal.returns-in-Ok-clause-value
returns-in-Ok-clause-value c =
    let v = c.args.self.now in
    let from = c.args.from in
    let sound = subst IsSound c.self.view_is (c.self.invariant.0 (ap (λ v. v.spent) c.self.view_is ∙ c.requires.ready)) in
    let above = c.saturating_sub.result / c.self.inside.fanout in
    let at : above ≡ parent v.fanout from = ap (λ n. n / c.self.inside.fanout) c.saturating_sub.ensures ∙ ap (λ v. (from - 1) / v.fanout) c.self.view_is in
    let below = min (from * v.fanout + 1) v.size in
    let end = min (below + v.fanout) v.size in
    sym (ap (λ steps. nth steps c.args.number) (sent-parts v sound from above below end c.requires.within at refl refl)
    ∙ within (filter (can_step v) (map (kvs.Deliver from) (between above (above + 1)))) (filter (can_step v) (map (kvs.Deliver from) (between below end))) c.args.number c.in-Ok.step (sym c.nth_along.ensures.value ∙ c.in-Ok.is))

pub returns-clause-value : goal.returns-clause-value
returns-clause-value c =
    let v = c.args.self.now in
    let from = c.args.from in
    let sound = subst IsSound c.self.view_is (c.self.invariant.0 (ap (λ v. v.spent) c.self.view_is ∙ c.requires.ready)) in
    let above = c.saturating_sub.result / c.self.inside.fanout in
    let at : above ≡ parent v.fanout from = ap (λ n. n / c.self.inside.fanout) c.saturating_sub.ensures ∙ ap (λ v. (from - 1) / v.fanout) c.self.view_is in
    let below = c.below-below.result.0 in
    let end = c.below-below.result.1 in
    c.nth_along-2.ensures.value
    ∙ sym (ap (λ steps. nth steps c.args.number) (sent-parts v sound from above below end c.requires.within at c.below-below.ensures.first c.below-below.ensures.end)
    ∙ behind (filter (can_step v) (map (kvs.Deliver from) (between above (above + 1)))) (filter (can_step v) (map (kvs.Deliver from) (between below end))) c.args.number c.in-Err.left (sym c.nth_along.ensures.value ∙ c.in-Err.is))
