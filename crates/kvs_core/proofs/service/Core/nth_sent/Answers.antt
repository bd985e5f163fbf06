use Rattle.std.proofs.Common.{◌≡◌, ◌∙◌, ◌+◌, ◌-◌, ◌*◌, ◌/◌, min, refl, ap, sym, subst, map, arith}
use Rattle.std.specs.List.{filter}
use Rattle.kvs_rules.specs.Brokers.{parent}
use Rattle.kvs_rules.specs.declared.events.KvsStep.TheVariants as kvs
use Rattle.kvs_core.specs.Steps.{can_step}
use Rattle.kvs_keys.specs.Walk.{between, nth}
use Rattle.kvs_core.specs.View.{IsFit}
use Rattle.kvs_core.proofs.Links.{AreLinked, sent-parts}
use Rattle.kvs_core.proofs.Linking.{all_linked}
use Rattle.kvs_keys.proofs.Walking.{behind, within}
use Rattle.kvs_core.proofs.service.Core.nth_sent.Goals as goal

pub returns-in-Ok-clause-value : goal.returns-in-Ok-clause-value
returns-in-Ok-clause-value c =
    let v = c.args.self.now in
    let from = c.args.from in
    let fit = subst IsFit c.self.view_is (c.self.invariant (ap (λ v. v.spent) c.self.view_is ∙ c.requires.ready)) in
    let linked : AreLinked v = subst AreLinked c.self.view_is (all_linked _ (c.self.invariant (ap (λ v. v.spent) c.self.view_is ∙ c.requires.ready)) c.links.ensures c.links-2.ensures) in
    let above = c.saturating_sub.result / c.self.inside.fanout in
    let at : above ≡ parent v.fanout from = ap (λ n. n / c.self.inside.fanout) c.saturating_sub.ensures ∙ ap (λ v. (from - 1) / v.fanout) c.self.view_is in
    let below = min (from * v.fanout + 1) v.size in
    let end = min (below + v.fanout) v.size in
    sym (ap (λ steps. nth steps c.args.number) (sent-parts v fit.some linked from above below end c.requires.within at refl refl)
    ∙ within (filter (can_step v) (map (kvs.Deliver from) (between above (above + 1)))) (filter (can_step v) (map (kvs.Deliver from) (between below end))) c.args.number c.in-Ok.step (sym c.nth_along.ensures.value ∙ c.in-Ok.is))

pub returns-clause-value : goal.returns-clause-value
returns-clause-value c =
    let v = c.args.self.now in
    let from = c.args.from in
    let fit = subst IsFit c.self.view_is (c.self.invariant (ap (λ v. v.spent) c.self.view_is ∙ c.requires.ready)) in
    let linked : AreLinked v = subst AreLinked c.self.view_is (all_linked _ (c.self.invariant (ap (λ v. v.spent) c.self.view_is ∙ c.requires.ready)) c.links.ensures c.links-2.ensures) in
    let above = c.saturating_sub.result / c.self.inside.fanout in
    let at : above ≡ parent v.fanout from = ap (λ n. n / c.self.inside.fanout) c.saturating_sub.ensures ∙ ap (λ v. (from - 1) / v.fanout) c.self.view_is in
    let below = c.min-below.result in
    let end = c.min-end.result in
    let size : c.self.inside.size ≡ v.size = ap (λ v. v.size) c.self.view_is in
    let fanout : c.self.inside.fanout ≡ v.fanout = ap (λ v. v.fanout) c.self.view_is in
    let times : from * c.self.inside.fanout ≡ from * v.fanout = ap (λ f. from * f) fanout in
    let first : below ≡ min (from * v.fanout + 1) v.size = omega (arith, size, times, c.saturating_mul.ensures, c.saturating_add.ensures, c.min-below.ensures) in
    let last : end ≡ min (below + v.fanout) v.size = omega (arith, size, fanout, c.saturating_add-2.ensures, c.min-end.ensures) in
    c.nth_along-2.ensures.value
    ∙ sym (ap (λ steps. nth steps c.args.number) (sent-parts v fit.some linked from above below end c.requires.within at first last)
    ∙ behind (filter (can_step v) (map (kvs.Deliver from) (between above (above + 1)))) (filter (can_step v) (map (kvs.Deliver from) (between below end))) c.args.number c.in-Err.left (sym c.nth_along.ensures.value ∙ c.in-Err.is))
