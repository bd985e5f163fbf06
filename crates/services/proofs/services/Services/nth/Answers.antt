use Rattle.std.proofs.Common.{◌≡◌, ◌∙◌, true, ap, subst, sym}
use Rattle.std.specs.Prelude.{IfOk}
use Rattle.job_service.specs.kvs_core.Order.{possible as core_possible}
use Rattle.job_service.specs.kvs_core.Steps.{can_step as core_can_step}
use Rattle.job_service.specs.kvs_keys.Walk.{nth}
use Rattle.services.proofs.Numbering.{same-steps}
use Rattle.services.proofs.services.Services.nth.Goals as goal

pub returns-clause-value : goal.returns-clause-value
returns-clause-value c =
    let v = c.args.self.now in
    let size : v.jobs.manager.core.size ≡ v.size = sym (ap (λ k. k.size) c.core.ensures.value) ∙ c.core.ensures.size in
    c.nth.ensures.value ∙ ap (λ k. nth (core_possible k) c.args.number) c.core.ensures.value ∙ ap (λ xs. nth xs c.args.number) (same-steps v size)

pub returns-clause-can : goal.returns-clause-can
returns-clause-can c = subst (λ k. IfOk c.nth.result (λ s. core_can_step k s ≡ true)) c.core.ensures.value c.nth.ensures.can
