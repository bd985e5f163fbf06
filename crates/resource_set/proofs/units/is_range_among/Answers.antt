use Rattle.std.proofs.Common.{◌∙◌, sym, arith}
use Rattle.idset.specs.Ids.{has}
use Rattle.resource_set.proofs.Spans.{passed_more, not_passed}
use Rattle.resource_set.proofs.units.is_range_among.Goals as goal

pub returns-then-not-has : goal.returns-then-not-has
returns-then-not-has c = sym (not_passed (has c.args.others.now) c.args.range.first c.args.range.last c.loop-id.id (omega arith) (omega arith) (sym c.has.ensures ∙ c.if-not-has.true))

pub loop-id-preserved : goal.loop-id-preserved
loop-id-preserved c = passed_more (has c.args.others.now) c.args.range.first c.loop-id.id (omega arith) c.loop-id.invariant (sym c.has.ensures ∙ c.if-not-has.false)
