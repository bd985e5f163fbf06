use Rattle.std.proofs.Common.{ap, ◌∙◌, false, subst}
use Rattle.kvs_rules.specs.declared.events.KvsStep.TheVariants as kvs
use Rattle.content_service.specs.Makes.{Makes}
use Rattle.content_service.specs.View.{value_of}
use Rattle.content_service.proofs.Stepping.{answered-waits, delivered-makes, delivered-sound}
use Rattle.content_service.proofs.service.ContentService.deliver.Goals as goal

pub hand-requires : goal.hand-requires
hand-requires c =
    let sound = c.self.invariant (ap (λ v. v.spent) c.self.view_is ∙ c.requires.ready) in
    answered-waits (value_of c.self.inside) sound c.deliver.new.self c.in_ok-answer.field-0.answer c.in_ok-answer.field-0.events c.in_ok-answer.ensures.waits

pub invariant_of-self-2 : goal.invariant_of-self-2
invariant_of-self-2 c = λ _.
    let sound = c.self.invariant (ap (λ v. v.spent) c.self.view_is ∙ c.requires.ready) in
    let e = c.in_ok-answer.ensures in
    delivered-sound (value_of c.self.inside) sound c.deliver.new.self c.in_ok-answer.field-0.answer c.in_ok-answer.field-0.events e.waits c.args.from c.args.to c.hand.new.rows.items c.hand.ensures e.sound e.alike e.shorter e.made e.follows e.told false

pub returns-clause-makes : goal.returns-clause-makes
returns-clause-makes c =
    let sound = c.self.invariant (ap (λ v. v.spent) c.self.view_is ∙ c.requires.ready) in
    let e = c.in_ok-answer.ensures in
    let makes = delivered-makes (value_of c.self.inside) sound c.deliver.new.self c.in_ok-answer.field-0.answer c.in_ok-answer.field-0.events e.waits c.args.from c.args.to c.hand.new.rows.items c.hand.ensures e.sound e.alike e.shorter e.made e.follows e.told in
    subst (λ v. Makes (kvs.Deliver c.args.from c.args.to) v (record { spent = false; size = c.self.inside.size; content = c.deliver.new.self; rows = c.hand.new.rows.items }) c.in_ok-answer.field-0.events) c.self.view_is makes
