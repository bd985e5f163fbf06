use Rattle.std.specs.Bool.{IsTrue}
use Rattle.std.proofs.Common.{◌≡◌, false, rules, ◌∙◌, ap, sym, subst}
use Rattle.std.specs.Prelude.{Some, None}
use Rattle.serde_json.specs.View.{view}
use Rattle.fl_json.specs.Reading.{json_value}
use Rattle.json.specs.Lex.{tokens}
use Rattle.fl_json.specs.Numbers.{first_bad_number, rewritten}
use Rattle.fl_json.proofs.Values.{WholeTokens, valid_read}
use Rattle.fl_json.proofs.WholeTexts.{whole_texts}
use Rattle.fl_json.proofs.Gifts.{err_gives, bad_reading, good_reading, value_of_text, no_value_of_text, no_bad}
use Rattle.fl_json.proofs.reading.read.Goals as goal

not_true : IsTrue false → ⊥
not_true h = search rules

pub returns-in_err-text-clause-value : goal.returns-in_err-text-clause-value
returns-in_err-text-clause-value c = err_gives _ c.from_residual.result c.in_err-text.field-0.0 _ c.from_residual.ensures.1 (bad_reading c.args.text.now _ c.in_err-text.ensures)

pub returns-in-Ok-clause-value : goal.returns-in-Ok-clause-value
returns-in-Ok-clause-value c =
    good_reading c.args.text.now c.in_ok-text.text.items (Some (view c.in-Ok.value)) c.in_ok-text.ensures
    (ap json_value (sym c.deref.ensures.value) ∙ value_of_text c.deref.result.now _ c.in-Ok.ensures.ok.0 c.in-Ok.ensures.ok.1)

pub returns-clause-value : goal.returns-clause-value
returns-clause-value c =
    good_reading c.args.text.now c.in_ok-text.text.items None c.in_ok-text.ensures
    (ap json_value (sym c.deref.ensures.value) ∙ no_value_of_text c.deref.result.now (λ u. c.in-Err.ensures.err (λ m. not_true (c.if-is_memory.ensures.1 m)) u))

pub returns-in-Ok-clause-valid : goal.returns-in-Ok-clause-valid
returns-in-Ok-clause-valid c =
    let good = no_bad (first_bad_number c.args.text.now) (rewritten c.args.text.now) c.in_ok-text.text.items c.in_ok-text.ensures in
    let same : rewritten c.args.text.now ≡ c.deref.result.now = good.1 ∙ sym c.deref.ensures.value in
    let whole : WholeTokens (tokens c.deref.result.now) = subst (λ t. WholeTokens (tokens t)) same (whole_texts c.args.text.now good.0) in
    valid_read (tokens c.deref.result.now) (view c.in-Ok.value) whole c.in-Ok.ensures.ok.1
