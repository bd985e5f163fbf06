use Rattle.std.proofs.Common.{◌≡◌, ◌∙◌, true, ap, subst}
use Rattle.std.specs.Prelude.{IfOk}
use Rattle.job_service.specs.kvs_core.Order.{possible_losses as core_losses}
use Rattle.job_service.specs.kvs_core.Steps.{can_step as core_can_step}
use Rattle.job_service.specs.kvs_keys.Walk.{nth}
use Rattle.services.proofs.services.Services.nth_loss.Goals as goal

pub returns-clause-value : goal.returns-clause-value
returns-clause-value c = c.nth_loss.ensures.value ∙ ap (λ k. nth (core_losses k) c.args.number) c.core.ensures.value

pub returns-clause-can : goal.returns-clause-can
returns-clause-can c = subst (λ k. IfOk c.nth_loss.result (λ s. core_can_step k s ≡ true)) c.core.ensures.value c.nth_loss.ensures.can
