use Rattle.std.proofs.Common.{◌≡◌, ◌∙◌, ◌||◌, true, ap, subst}
use Rattle.std.proofs.lemmas.Result.{IfOk-weaker}
use Rattle.kvs_keys.specs.Order.{possible_losses as keys_losses}
use Rattle.kvs_keys.specs.Steps.{can_step as keys_can_step}
use Rattle.kvs_keys.specs.Walk.{nth}
use Rattle.content_service.specs.Steps.{can_step as contents_can_step}
use Rattle.kvs_core.proofs.service.Core.nth_loss.Goals as goal

pub returns-clause-value : goal.returns-clause-value
returns-clause-value c = c.nth_loss.ensures.value ∙ ap (λ k. nth (keys_losses k) c.args.number) (ap (λ v. v.keys) c.self.view_is)

pub returns-clause-can : goal.returns-clause-can
returns-clause-can c =
    let v = c.args.self.now in
    IfOk-weaker c.nth_loss.result _ _ (λ s can. ap (λ b. b || contents_can_step v.contents s) (subst (λ k. keys_can_step k s ≡ true) (ap (λ v. v.keys) c.self.view_is) can)) c.nth_loss.ensures.can
