use Rattle.std.proofs.Common.{◌≡◌, ◌∙◌, false, true, ap, sym, subst}
use Rattle.kvs_core.specs.View.{IsFit}
use Rattle.std.specs.Prelude.{slice_get}
use Rattle.kvs_rules.specs.declared.events.KvsStep.{KvsStep}
use Rattle.kvs_keys.specs.Order.{possible as keys_possible}
use Rattle.kvs_keys.specs.Steps.{can_step as keys_can_step}
use Rattle.content_service.specs.Steps.{can_step as contents_can_step}
use Rattle.kvs_core.proofs.Walking.{idle-can, idle-possible, some-weaker}
use Rattle.kvs_core.proofs.service.Core.next.Goals as goal

pub returns-then-is_idle-clause-first : goal.returns-then-is_idle-clause-first
returns-then-is_idle-clause-first c =
    let v = c.args.self.now in
    let idle : (s : KvsStep) → contents_can_step v.contents s ≡ false = subst (λ v. (s : KvsStep) → contents_can_step v.contents s ≡ false) c.self.view_is (c.is_idle.ensures c.if-is_idle.true) in
    let fit : IsFit v = subst IsFit c.self.view_is (c.self.invariant (ap (λ v. v.spent) c.self.view_is ∙ c.requires)) in
    c.next.ensures.first ∙ ap (λ k. slice_get (keys_possible k) 0) (ap (λ v. v.keys) c.self.view_is) ∙ ap (λ xs. slice_get xs 0) (sym (idle-possible v idle fit))

pub returns-then-is_idle-clause-some : goal.returns-then-is_idle-clause-some
returns-then-is_idle-clause-some c =
    let v = c.args.self.now in
    let idle : (s : KvsStep) → contents_can_step v.contents s ≡ false = subst (λ v. (s : KvsStep) → contents_can_step v.contents s ≡ false) c.self.view_is (c.is_idle.ensures c.if-is_idle.true) in
    let fit : IsFit v = subst IsFit c.self.view_is (c.self.invariant (ap (λ v. v.spent) c.self.view_is ∙ c.requires)) in
    some-weaker c.next.result (λ s can. idle-can v idle s ∙ subst (λ k. keys_can_step k s ≡ true) (ap (λ v. v.keys) c.self.view_is) can) c.next.ensures.some

pub returns-then-is_idle-clause-none : goal.returns-then-is_idle-clause-none
returns-then-is_idle-clause-none c = λ none s.
    let v = c.args.self.now in
    let idle : (s : KvsStep) → contents_can_step v.contents s ≡ false = subst (λ v. (s : KvsStep) → contents_can_step v.contents s ≡ false) c.self.view_is (c.is_idle.ensures c.if-is_idle.true) in
    let fit : IsFit v = subst IsFit c.self.view_is (c.self.invariant (ap (λ v. v.spent) c.self.view_is ∙ c.requires)) in
    idle-can v idle s ∙ subst (λ k. keys_can_step k s ≡ false) (ap (λ v. v.keys) c.self.view_is) (c.next.ensures.none none s)
