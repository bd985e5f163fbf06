use Rattle.std.proofs.Common.{get_or, refl, sym, ◌∙◌}
use Rattle.std.proofs.lemmas.List.Folds.{list_all_more}
use Rattle.fluid_ids.specs.Texts.{is_digit_in}
use Rattle.fluid_ids.proofs.Digits.{not_all, no_digit, a_digit}
use Rattle.fluid_ids.proofs.reader.are_digits.Goals as goal

pub returns-then-value-base : goal.returns-then-value-base
returns-then-value-base c =
    let base = c.args.base.now in
    let text = c.args.text.now in
    let byte = get_or text c.loop-byte.byte-index 0 in
    sym (not_all (is_digit_in base) text c.loop-byte.byte-index c.loop-byte-test.true (no_digit base byte c.value.result c.value.ensures.value c.if-value-base.true))

pub loop-byte-preserved : goal.loop-byte-preserved
loop-byte-preserved c =
    let base = c.args.base.now in
    let text = c.args.text.now in
    let byte = get_or text c.loop-byte.byte-index 0 in
    list_all_more (is_digit_in base) text c.loop-byte.byte-index 0 c.loop-byte-test.true
    ∙ rw (c.loop-byte.invariant, a_digit base byte c.value.result c.value.ensures.value c.value.ensures.within c.if-value-base.false) refl
