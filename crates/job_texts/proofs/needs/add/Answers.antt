use Rattle.std.proofs.Common.{arith}
use Rattle.job_spec.specs.declared.spec.Scheme.TheVariants.{After}
use Rattle.job_texts.proofs.Listing.{add_next}
use Rattle.job_texts.proofs.needs.add.Goals as goal

pub loop-need-preserved : goal.loop-need-preserved
loop-need-preserved c = λ all e. add_next all c.args.more.now c.loop-need.need-index (record { scheme = After; on = 0 }) c.loop-need.needs _ (omega arith) (c.loop-need.invariant all e) c.in_ok-add_one.ensures
