use Rattle.std.proofs.Common.{◌+◌, ◌<◌, length, arith}
use Rattle.shells.proofs.Digits.{one_more, is_small}
use Rattle.shells.proofs.commands.number_of.Goals as goal

pub overflow_mul-number : goal.overflow_mul-number
overflow_mul-number c =
    let ds = c.args.digits.now in
    let i = c.loop-digit.digit-index in
    let within : i < length ds = omega arith in
    omega (arith, one_more ds i c.requires.digits within, is_small ds (i + 1) c.requires.digits c.requires.short, c.loop-digit.invariant)

pub overflow_add-number : goal.overflow_add-number
overflow_add-number c =
    let ds = c.args.digits.now in
    let i = c.loop-digit.digit-index in
    let within : i < length ds = omega arith in
    omega (arith, one_more ds i c.requires.digits within, is_small ds (i + 1) c.requires.digits c.requires.short, c.loop-digit.invariant, c.from.ensures)

pub loop-digit-preserved : goal.loop-digit-preserved
loop-digit-preserved c =
    let ds = c.args.digits.now in
    let i = c.loop-digit.digit-index in
    let within : i < length ds = omega arith in
    omega (arith, one_more ds i c.requires.digits within, c.loop-digit.invariant, c.from.ensures)
