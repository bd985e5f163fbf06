use Rattle.std.proofs.Common.{◌∙◌, ◌++◌, ◌∷◌, [], ap, ap₂, arith, map, sym}
use Rattle.std.proofs.lemmas.List.{map_more, map_push, take_all}
use Rattle.serde_json.specs.Data.{array}
use Rattle.serde_json.specs.View.{items_of, view}
use Rattle.serde_json.proofs.Views.{view-Array}
use Rattle.job_submissions.proofs.Described.{all_described, described_one}
use Rattle.job_submissions.proofs.events.described.Goals as goal

pub loop-need-preserved : goal.loop-need-preserved
loop-need-preserved c =
    let needs = c.args.needs.now in
    let i = c.loop-need.need-index in
    ap (map view) c.in_ok-push.ensures.items
    ∙ map_push view c.loop-need.values.items c.in_ok-description_value.field-0
    ∙ ap₂ (λ l d. l ++ d ∷ []) c.loop-need.invariant c.in_ok-description_value.ensures
    ∙ sym (map_more described_one needs i _ c.loop-need-test.true)

pub returns : goal.returns
returns c =
    let needs = c.args.needs.now in
    view-Array c.loop-need.values
    ∙ ap (λ l. array (items_of l)) (c.loop-need.invariant ∙ ap (map described_one) (take_all c.loop-need.need-index needs (omega arith)))
    ∙ ap array (all_described needs)
