use Rattle.std.proofs.Common.{arith, refl}
use Rattle.hostlist.proofs.Numbers.{value_small, one_more}
use Rattle.hostlist.proofs.names.value.Goals as goal

pub loop-digit-init : goal.loop-digit-init
loop-digit-init c = (refl, value_small c.args.digits.now c.requires.digits c.requires.short)

pub overflow_mul-value : goal.overflow_mul-value
overflow_mul-value c =
    let m = one_more c.args.digits.now c.loop-digit.digit-index c.requires.digits (omega arith) in
    omega (arith, m.value, m.within)

pub overflow_sub-digit : goal.overflow_sub-digit
overflow_sub-digit c = (one_more c.args.digits.now c.loop-digit.digit-index c.requires.digits (omega arith)).low

pub overflow_add-value : goal.overflow_add-value
overflow_add-value c =
    let m = one_more c.args.digits.now c.loop-digit.digit-index c.requires.digits (omega arith) in
    omega (arith, m.value, m.within)

pub loop-digit-preserved : goal.loop-digit-preserved
loop-digit-preserved c =
    let m = one_more c.args.digits.now c.loop-digit.digit-index c.requires.digits (omega arith) in
    (omega (arith, m.value), c.loop-digit.invariant.1)
