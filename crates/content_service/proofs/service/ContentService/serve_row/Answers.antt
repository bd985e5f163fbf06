use Rattle.std.proofs.Common.{ap, ◌∙◌, ◌<◌, ◌≡◌, true, false, get_or, sym, subst, length}
use Rattle.kvs_rules.specs.declared.events.KvsStep.TheVariants as kvs
use Rattle.content_service.specs.declared.rows.Row.{Row}
use Rattle.content_service.specs.declared.rows.Stage.TheVariants as stage
use Rattle.content_service.specs.Makes.{Makes}
use Rattle.content_service.specs.Rows.{may_serve}
use Rattle.content_service.specs.Steps.{is_flushed}
use Rattle.content_service.specs.View.{value_of}
use Rattle.content_service.proofs.Stepping.{put-again, read-there, served-makes, served-sound}
use Rattle.content_service.proofs.service.ContentService.serve_row.Goals as goal

pub invariant_of-self-2 : goal.invariant_of-self-2
invariant_of-self-2 c = λ _.
    let v = value_of c.self.inside in
    let sound = c.self.invariant (ap (λ v. v.spent) c.self.view_is ∙ c.requires.ready) in
    let within = subst (λ v. c.args.i < length v.rows) (sym c.self.view_is) c.requires.within in
    let can = subst (λ v. (d : Row) → may_serve c.args.broker (is_flushed v.content c.args.broker) (get_or v.rows c.args.i d) ≡ true) (sym c.self.view_is) c.requires.can in
    let put = put-again v.rows c.take_ask-ask.new.rows.items c.put_stage.new.rows.items c.args.i within stage.Flushing c.in_ok-stage.field-0.stage c.take_ask-ask.ensures.rows c.put_stage.ensures in
    served-sound v sound c.serve.new.contents c.args.i within c.args.broker can c.take_ask-ask.result c.take_ask-ask.ensures.was c.index.result.now.by (read-there v.rows c.args.i within c.index.result.now c.index.ensures)
    c.in_ok-stage.field-0 c.in_ok-stage.ensures c.put_stage.new.rows.items put false

pub returns-clause-makes : goal.returns-clause-makes
returns-clause-makes c =
    let v = value_of c.self.inside in
    let sound = c.self.invariant (ap (λ v. v.spent) c.self.view_is ∙ c.requires.ready) in
    let within = subst (λ v. c.args.i < length v.rows) (sym c.self.view_is) c.requires.within in
    let can = subst (λ v. (d : Row) → may_serve c.args.broker (is_flushed v.content c.args.broker) (get_or v.rows c.args.i d) ≡ true) (sym c.self.view_is) c.requires.can in
    let put = put-again v.rows c.take_ask-ask.new.rows.items c.put_stage.new.rows.items c.args.i within stage.Flushing c.in_ok-stage.field-0.stage c.take_ask-ask.ensures.rows c.put_stage.ensures in
    subst (λ v. Makes (kvs.Serve c.args.broker) v (record { spent = false; size = c.self.inside.size; content = c.serve.new.contents; rows = c.put_stage.new.rows.items }) c.in_ok-stage.field-0.events) c.self.view_is
    (served-makes v sound c.serve.new.contents c.args.i within c.args.broker can c.take_ask-ask.result c.take_ask-ask.ensures.was c.index.result.now.by (read-there v.rows c.args.i within c.index.result.now c.index.ensures)
    c.in_ok-stage.field-0 c.in_ok-stage.ensures c.put_stage.new.rows.items put)
