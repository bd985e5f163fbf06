use Rattle.std.proofs.Common.{ap, ◌∙◌, ◌≡◌, [], ◌∷◌, ◌++◌, None, true, sym, subst}
use Rattle.kvs_rules.specs.declared.events.KvsEvent.TheVariants as event
use Rattle.kvs_rules.specs.Log.{Happened}
use Rattle.content_service.specs.Agrees.{AgreesService}
use Rattle.content_service.specs.Rows.{is_held}
use Rattle.content_service.specs.Sound.{IsSound}
use Rattle.content_service.specs.Steps.{can_take}
use Rattle.content_service.specs.View.{value_of}
use Rattle.content_service.proofs.Lists.{found-none}
use Rattle.content_service.proofs.Taking.{take-held, taken-agrees, taken-legal, taken-sound}
use Rattle.content_service.proofs.service.ContentService.take.Goals as goal

pub unreachable-requires : goal.unreachable-requires
unreachable-requires c =
    found-none (is_held c.args.by) c.self.inside.rows.items c.in-None.ensures (subst (λ v. can_take v c.args.by ≡ true) (sym c.self.view_is) c.requires.can)

pub answer_of-requires : goal.answer_of-requires
answer_of-requires c = take-held (value_of c.self.inside) c.args.by c.in-Some.i c.remove-row.result c.remove-row.ensures.value c.in-Some.ensures

pub invariant_of-self : goal.invariant_of-self
invariant_of-self c = λ ready.
    let v = value_of c.self.inside in
    subst (λ rs. IsSound (record { spent = v.spent; size = v.size; content = v.content; rows = rs })) (sym c.remove-row.ensures.items)
    (taken-sound v c.args.by c.in-Some.i c.remove-row.result c.remove-row.ensures.value c.in-Some.ensures (c.self.invariant ready) v.spent)

pub returns-clause-legal : goal.returns-clause-legal
returns-clause-legal c = λ set log a.
    let s = c.self.invariant (ap (λ v. v.spent) c.self.view_is ∙ c.requires.ready) in
    let b = subst (λ v. AgreesService v set log) (sym c.self.view_is) a in
    taken-legal (value_of c.self.inside) c.args.by c.in-Some.i c.remove-row.result c.remove-row.ensures.value c.in-Some.ensures s c.answer_of.result c.answer_of.ensures set log b

pub returns-clause-agrees : goal.returns-clause-agrees
returns-clause-agrees c = λ set log a.
    let v = value_of c.self.inside in
    let s = c.self.invariant (ap (λ v. v.spent) c.self.view_is ∙ c.requires.ready) in
    let b = subst (λ v. AgreesService v set log) (sym c.self.view_is) a in
    subst (λ rs. AgreesService (record { spent = v.spent; size = v.size; content = v.content; rows = rs }) set (log ++ Happened (event.Answered c.args.by None c.answer_of.result) ∷ [])) (sym c.remove-row.ensures.items)
    (taken-agrees v c.args.by c.in-Some.i c.remove-row.result c.remove-row.ensures.value c.in-Some.ensures s c.answer_of.result c.answer_of.ensures set log b v.spent)
