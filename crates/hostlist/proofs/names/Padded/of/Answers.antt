use Rattle.std.proofs.Common.{◌+◌, ap, ◌∙◌, arith, drop, set}
use Rattle.hostlist.proofs.Numbers.{digits_begin, digits_room, digits_more, digits_end}
use Rattle.hostlist.proofs.names.Padded.of.Goals as goal

pub loop-rest-init : goal.loop-rest-init
loop-rest-init c = digits_begin c.args.number (omega arith)

pub overflow_sub-at : goal.overflow_sub-at
overflow_sub-at c = digits_room _ _ _ _ c.loop-rest.invariant c.loop-rest-test.true

pub loop-rest-preserved : goal.loop-rest-preserved
loop-rest-preserved c = digits_more _ _ _ _ c.loop-rest.invariant c.loop-rest-test.true

pub returns : goal.returns
returns c =
    ap (λ n. drop n (set c.loop-rest.bytes c.loop-rest.at (48 + c.loop-rest.rest))) c.min.ensures
    ∙ digits_end c.loop-rest.bytes c.loop-rest.at c.loop-rest.rest c.args.number c.args.width c.loop-rest.invariant (omega arith) c.requires
