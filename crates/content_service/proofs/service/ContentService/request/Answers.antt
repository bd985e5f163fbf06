use Rattle.std.proofs.Common.{ap, ◌∙◌, ◌<◌, [], ◌∷◌, ◌++◌, false, sym, subst}
use Rattle.kvs_rules.specs.Log.{Asked}
use Rattle.content_service.specs.Agrees.{AgreesService}
use Rattle.content_service.specs.View.{value_of}
use Rattle.content_service.proofs.Asking.{asked-agrees}
use Rattle.content_service.proofs.service.ContentService.request.Goals as goal

pub returns-clause-agrees : goal.returns-clause-agrees
returns-clause-agrees c = λ set log space floors a made fresh.
    let v = value_of c.self.inside in
    let s = c.self.invariant (ap (λ v. v.spent) c.self.view_is ∙ c.requires.ready) in
    let b = subst (λ v. AgreesService v set log) (sym c.self.view_is) a in
    let within = subst (λ v. c.args.broker < v.size) (sym c.self.view_is) c.requires.within in
    subst (λ rs. AgreesService (record { spent = false; size = v.size; content = v.content; rows = rs }) set (log ++ Asked c.args.by floors ∷ [])) (sym c.in_ok-push.ensures.items)
    (asked-agrees v s set log b c.args.by floors fresh c.args.broker within space c.args.ask made c.requires.known c.content_ask.result c.content_ask.ensures false)
