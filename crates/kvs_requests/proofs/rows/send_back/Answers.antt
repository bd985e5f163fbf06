use Rattle.std.proofs.Common.{◌≡◌, ◌∙◌, get_or, set, ap, subst, sym}
use Rattle.std.proofs.lemmas.List.{get_or_default}
use Rattle.kvs_requests.specs.declared.rows.Row.{Row}
use Rattle.kvs_requests.specs.Refused.{IsReturning}
use Rattle.kvs_requests.specs.Rows.{with_stage}
use Rattle.kvs_requests.specs.Stages.{is_arrived, is_arrived_stage}
use Rattle.kvs_requests.proofs.rows.send_back.Goals as goal

pub sent_back-requires-clause-arrived : goal.sent_back-requires-clause-arrived
sent_back-requires-clause-arrived c =
    let row = c.index_mut-row.result.now in
    ap is_arrived_stage c.take_stage-stage.ensures ∙ ap is_arrived c.index_mut-row.ensures.value ∙ c.requires.arrived row

pub returns : goal.returns
returns c =
    let row = c.index_mut-row.result.now in
    let rows = c.args.rows.now.items in
    let back = c.sent_back.ensures in
    let same : (d : Row) → row ≡ get_or rows c.args.i d = λ d. c.index_mut-row.ensures.value ∙ get_or_default rows c.args.i row d c.requires.within in
    rw c.set_stage.ensures record {
      asked = back.0;
      stage = c.sent_back.result;
      was = λ d. ap (λ r. r.stage) (sym (same d)) ∙ sym c.take_stage-stage.ensures ∙ back.1;
      goes = λ d. subst (λ r. IsReturning c.args.fanout 0 r.broker c.args.space back.0 c.sent_back.result) (same d) back.2;
      others = λ d. ap (λ r. set rows c.args.i (with_stage c.sent_back.result r)) (same d);
    }
