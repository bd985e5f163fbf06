use Rattle.std.proofs.Common.{◌≡◌, ◌∙◌, false, true, ap, subst, sym}
use Rattle.std.specs.Prelude.{IfSome, slice_get}
use Rattle.job_service.specs.kvs_core.Order.{possible as core_possible}
use Rattle.job_service.specs.kvs_core.Steps.{can_step as core_can_step}
use Rattle.services.proofs.Numbering.{same-steps}
use Rattle.services.proofs.services.Services.next.Goals as goal

pub returns-clause-first : goal.returns-clause-first
returns-clause-first c =
    let v = c.args.self.now in
    let size : v.jobs.manager.core.size ≡ v.size = sym (ap (λ k. k.size) c.core.ensures.value) ∙ c.core.ensures.size in
    c.next.ensures.first ∙ ap (λ k. slice_get (core_possible k) 0) c.core.ensures.value ∙ ap (λ xs. slice_get xs 0) (same-steps v size)

pub returns-clause-some : goal.returns-clause-some
returns-clause-some c = subst (λ k. IfSome c.next.result (λ s. core_can_step k s ≡ true)) c.core.ensures.value c.next.ensures.some

pub returns-clause-none : goal.returns-clause-none
returns-clause-none c = λ none s. subst (λ k. core_can_step k s ≡ false) c.core.ensures.value (c.next.ensures.none none s)
