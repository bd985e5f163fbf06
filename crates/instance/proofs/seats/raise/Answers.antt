use Rattle.std.proofs.Common.{arith}
use Rattle.instance.proofs.Telling.{told_nobody, told_so}
use Rattle.instance.proofs.seats.raise.Goals as goal

pub returns-in_ok-join-2 : goal.returns-in_ok-join-2
returns-in_ok-join-2 c =
    told_so c.args.seats.now.items c.args.from c.args.to c.index.result.now c.index_mut-seat.result.now c.requires (omega (arith, c.if-to-len.true, c.len.ensures)) c.index.ensures c.index_mut-seat.ensures.value
    c.new-floors.result c.join.new.self c.join-then-to-len.new.self c.new-floors.ensures c.in_ok-join.ensures c.in_ok-join-2.ensures

pub returns-else-to-len : goal.returns-else-to-len
returns-else-to-len c = told_nobody c.args.seats.now.items c.args.from c.args.to (omega (arith, c.if-to-len.false, c.len.ensures))
