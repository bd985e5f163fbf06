use Rattle.std.proofs.Common.{◌≡◌, ◌∙◌, false, ap, sym, subst}
use Rattle.kvs_core.specs.View.{IsFit, value_of}
use Rattle.std.specs.Prelude.{slice_get}
use Rattle.kvs_rules.specs.declared.events.KvsStep.{KvsStep}
use Rattle.kvs_core.specs.Order.{possible}
use Rattle.kvs_core.specs.Steps.{can_step}
use Rattle.kvs_core.proofs.Linking.{all_linked}
use Rattle.kvs_core.proofs.Walking.{first-is, none-can, none-left}
use Rattle.kvs_core.proofs.service.Core.first_of_both.Goals as goal

pub returns-in-Ok-clause-first : goal.returns-in-Ok-clause-first
returns-in-Ok-clause-first c = first-is (possible c.args.self.now) c.in-Ok.step (sym c.nth_of_both.ensures.value ∙ c.in-Ok.is)

pub returns-in-Err-clause-first : goal.returns-in-Err-clause-first
returns-in-Err-clause-first c = ap (λ xs. slice_get xs 0) (sym (none-left (possible c.args.self.now) c.in-Err.field-0 (sym c.nth_of_both.ensures.value ∙ c.in-Err.is)))

pub returns-in-Err-clause-none : goal.returns-in-Err-clause-none
returns-in-Err-clause-none c = λ _.
    let w = value_of c.self.inside in
    let fit : IsFit w = c.self.invariant (ap (λ v. v.spent) c.self.view_is ∙ c.requires) in
    let linked = all_linked w fit c.links.ensures c.links-2.ensures in
    subst (λ v. (s : KvsStep) → can_step v s ≡ false) c.self.view_is
    (none-can w fit linked (ap possible c.self.view_is ∙ none-left (possible c.args.self.now) c.in-Err.field-0 (sym c.nth_of_both.ensures.value ∙ c.in-Err.is)))
