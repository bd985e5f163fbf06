use Rattle.std.proofs.Common.{sym, ◌∙◌, take, subst, true≢false}
use Rattle.std.specs.List.{AllByRecursion as Each}
use Rattle.std.proofs.lemmas.List.{take_all}
use Rattle.job_deeds.specs.Passing.{FindsRoom}
use Rattle.job_deeds.proofs.Finding.{each_next}
use Rattle.job_deeds.proofs.passing.has_some.Goals as goal

pub loop-row-preserved : goal.loop-row-preserved
loop-row-preserved c = each_next (λ j. FindsRoom c.args.desk.now.graph.now c.args.head j → ⊥) c.args.desk.now.rows.now c.loop-row.row-index c.row-item.result c.loop-row.invariant c.loop-row-test.true c.row-item.is (λ f. true≢false (sym (c.finds_room.ensures.1 f) ∙ c.if-finds_room.false))
