use Rattle.std.proofs.Common.{ap, ◌∙◌, sym, subst}
use Rattle.content_service.specs.Agrees.{AgreesService}
use Rattle.content_service.specs.Steps.{IsStill}
use Rattle.content_service.specs.View.{value_of}
use Rattle.content_service.proofs.Resting.{none-open}
use Rattle.content_service.proofs.service.ContentService.still.Goals as goal

pub returns : goal.returns
returns c = λ set log a still.
    let e = c.self.view_is in
    none-open (value_of c.self.inside) (c.self.invariant (ap (λ v. v.spent) e ∙ c.requires)) (subst IsStill (sym e) still) set log (subst (λ v. AgreesService v set log) (sym e) a)
