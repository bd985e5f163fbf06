use Rattle.std.proofs.Common.{sym, ◌∙◌}
use Rattle.backing.proofs.Kept.{mark_next, put_next}
use Rattle.backing.proofs.memory.last_check.Goals as goal
use Rattle.backing.proofs.memory.last_check.Goals.{in-Mark, in-Put}

pub loop-write-preserved : goal.loop-write-preserved
loop-write-preserved c = elim c.match-write.branch [
  | in-Mark w ↦ w.last-is ∙ sym (mark_next c.args.writes.now c.loop-write.write-index c.write-item.result w.in-Mark.check c.loop-write-test.true c.write-item.is w.in-Mark.is)
  | in-Put w ↦ w.last-is ∙ c.loop-write.invariant ∙ sym (put_next c.args.writes.now c.loop-write.write-index c.write-item.result w.in-Put.field-0 w.in-Put.field-1 c.loop-write-test.true c.write-item.is w.in-Put.is)
]
