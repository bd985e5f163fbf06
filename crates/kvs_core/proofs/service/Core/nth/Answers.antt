use Rattle.std.proofs.Common.{◌≡◌, ◌∙◌, false, true, ap, sym, subst}
use Rattle.kvs_core.specs.View.{IsFit}
use Rattle.std.proofs.lemmas.Result.{IfOk-weaker}
use Rattle.kvs_rules.specs.declared.events.KvsStep.{KvsStep}
use Rattle.kvs_keys.specs.Order.{possible as keys_possible}
use Rattle.kvs_keys.specs.Steps.{can_step as keys_can_step}
use Rattle.kvs_keys.specs.Walk.{nth}
use Rattle.content_service.specs.Steps.{can_step as contents_can_step}
use Rattle.kvs_core.proofs.Walking.{idle-can, idle-possible}
use Rattle.kvs_core.proofs.service.Core.nth.Goals as goal

pub returns-then-is_idle-clause-value : goal.returns-then-is_idle-clause-value
returns-then-is_idle-clause-value c =
    let v = c.args.self.now in
    let idle : (s : KvsStep) → contents_can_step v.contents s ≡ false = subst (λ v. (s : KvsStep) → contents_can_step v.contents s ≡ false) c.self.view_is (c.is_idle.ensures c.if-is_idle.true) in
    let fit : IsFit v = subst IsFit c.self.view_is (c.self.invariant (ap (λ v. v.spent) c.self.view_is ∙ c.requires)) in
    c.nth.ensures.value ∙ ap (λ k. nth (keys_possible k) c.args.number) (ap (λ v. v.keys) c.self.view_is) ∙ ap (λ xs. nth xs c.args.number) (sym (idle-possible v idle fit))

pub returns-then-is_idle-clause-can : goal.returns-then-is_idle-clause-can
returns-then-is_idle-clause-can c =
    let v = c.args.self.now in
    let idle : (s : KvsStep) → contents_can_step v.contents s ≡ false = subst (λ v. (s : KvsStep) → contents_can_step v.contents s ≡ false) c.self.view_is (c.is_idle.ensures c.if-is_idle.true) in
    let fit : IsFit v = subst IsFit c.self.view_is (c.self.invariant (ap (λ v. v.spent) c.self.view_is ∙ c.requires)) in
    IfOk-weaker c.nth.result _ _ (λ s can. idle-can v idle s ∙ subst (λ k. keys_can_step k s ≡ true) (ap (λ v. v.keys) c.self.view_is) can) c.nth.ensures.can
