use Rattle.std.proofs.Common.{arith}
use Rattle.job_submissions.proofs.Drawn.{no-later, rank-small, sequence-small, since-birth, submits-now}
use Rattle.job_submissions.proofs.posting.of_row.Goals as goal

pub make-requires-clause-rank : goal.make-requires-clause-rank
make-requires-clause-rank c =
    let w = c.in-Waits-Submit in
    rank-small c.args.commands.now c.args.birth c.requires.drawn c.args.row.now c.requires.stands (submits-now c.args.row.now w.label-1 w.urgency w.needs w.text w.is-0 w.is-1) c.requires.short

pub make-requires-clause-sequence : goal.make-requires-clause-sequence
make-requires-clause-sequence c =
    let w = c.in-Waits-Submit in
    sequence-small c.args.commands.now c.args.birth c.requires.drawn c.args.row.now c.requires.stands (submits-now c.args.row.now w.label-1 w.urgency w.needs w.text w.is-0 w.is-1)

pub make-requires-clause-order : goal.make-requires-clause-order
make-requires-clause-order c =
    let w = c.in-Waits-Submit in
    since-birth c.args.commands.now c.args.birth c.requires.drawn c.args.row.now c.requires.stands (submits-now c.args.row.now w.label-1 w.urgency w.needs w.text w.is-0 w.is-1)

pub make-requires-clause-early : goal.make-requires-clause-early
make-requires-clause-early c =
    let w = c.in-Waits-Submit in
    no-later c.args.commands.now c.args.birth c.requires.drawn c.args.row.now c.requires.stands (submits-now c.args.row.now w.label-1 w.urgency w.needs w.text w.is-0 w.is-1) c.args.now c.requires.marked

pub make-requires-clause-soon : goal.make-requires-clause-soon
make-requires-clause-soon c =
    let w = c.in-Waits-Submit in
    let early = no-later c.args.commands.now c.args.birth c.requires.drawn c.args.row.now c.requires.stands (submits-now c.args.row.now w.label-1 w.urgency w.needs w.text w.is-0 w.is-1) c.args.now c.requires.marked in
    let soon = c.requires.soon in
    omega (arith, early, soon)
