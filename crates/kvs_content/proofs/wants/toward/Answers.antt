use Rattle.kvs_content.proofs.Ways.{above-itself, climbed, passed}
use Rattle.kvs_content.proofs.wants.toward.Goals as goal

pub loop-next-init : goal.loop-next-init
loop-next-init c = record { way = above-itself c.args.fanout c.args.home; above = c.requires.below; below = c.requires.above }

pub loop-next-preserved : goal.loop-next-preserved
loop-next-preserved c =
    let i = c.loop-next.invariant in
    let up = passed c.args.fanout c.args.at c.loop-next.next i.above c.loop-next-test.true i.below in
    record { way = climbed c.args.fanout c.loop-next.next c.args.home i.way; above = up.0; below = up.1 }
