use Rattle.std.proofs.Common.{arith}
use Rattle.job_texts.proofs.Listing.{listed_next, listed_all}
use Rattle.job_texts.proofs.needs.described.Goals as goal

pub loop-item-preserved : goal.loop-item-preserved
loop-item-preserved c = λ listed small h. listed_next c.args.items.now listed c.loop-item.item-index c.item-item.result c.loop-item.needs _ small h (omega arith) c.item-item.is (c.loop-item.invariant listed small h) c.in_ok-add_described.ensures

pub returns : goal.returns
returns c = λ listed small h. listed_all c.args.items.now listed c.loop-item.item-index c.loop-item.needs h (omega arith) (c.loop-item.invariant listed small h)
