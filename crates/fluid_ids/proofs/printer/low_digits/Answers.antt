use Rattle.std.proofs.Common.{◌<◌, ◌/◌, ◌++◌, length, map, reverse, slice_index, sym, ap, ◌∙◌, arith}
use Rattle.std.specs.Int.Digits.{digits_of}
use Rattle.fluid_ids.proofs.Digits.{digits_more, digits_all, digits_zero}
use Rattle.fluid_ids.proofs.printer.low_digits.Goals as goal

pub returns-then-number-eq0 : goal.returns-then-number-eq0
returns-then-number-eq0 c = rw (c.in_ok-push.ensures.items, c.new-text.ensures.items) (digits_zero c.args.base.now c.args.number c.if-number-eq0.true)

pub loop-left-preserved : goal.loop-left-preserved
loop-left-preserved c =
    let some : 0 < c.loop-left.left = omega arith in
    ap (λ t. map (slice_index c.args.base.now) (digits_of (length c.args.base.now) (c.loop-left.left / length c.args.base.now)) ++ reverse t) c.in_ok-push-2.ensures.items
    ∙ digits_more c.args.base.now c.loop-left.text.items c.loop-left.left c.requires.0 some ∙ c.loop-left.invariant

pub returns : goal.returns
returns c =
    let some : 0 < c.args.number = omega arith in
    ap (λ n. map (slice_index c.args.base.now) (digits_of (length c.args.base.now) n) ++ reverse c.loop-left.text.items) (sym c.loop-left-test.false) ∙ c.loop-left.invariant ∙ digits_all c.args.base.now c.args.number some
