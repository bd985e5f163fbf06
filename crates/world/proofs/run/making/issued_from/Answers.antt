use Rattle.homes.proofs.Lining.{next_line_on}
use Rattle.homes.proofs.Standing.{item_at}
use Rattle.world.proofs.run.making.issued_from.Goals as goal

pub returns-clause-next : goal.returns-clause-next
returns-clause-next c =
    let lines = c.args.lines.now in
    let some = item_at lines c.args.place.next c.requires.more in
    next_line_on lines c.args.actor c.args.place.issued c.args.place.next c.requires.next some.0 c.requires.more
    c.next_line.result c.next_line.ensures.within.0 c.next_line.ensures.within.1 c.next_line.ensures.passed c.next_line.ensures.here
