use Rattle.homes.proofs.Finding.{home_read}
use Rattle.homes.proofs.Telling.{left_more}
use Rattle.homes.proofs.closing.tell_living.Goals as goal

pub loop-number-preserved : goal.loop-number-preserved
loop-number-preserved c =
    let homes = c.args.homes.now in
    let n = c.loop-number.number in
    let h = c.index-homes-number.result in
    let here = home_read homes n h c.loop-number-test.true c.index-homes-number.is in
    left_more homes n h here c.args.chronicle.now c.loop-number.chronicle c.tell_home.new.chronicle c.loop-number.invariant.0 c.loop-number.invariant.1 c.loop-number.invariant.2
    c.in_ok-tell_home.ensures.gone c.in_ok-tell_home.ensures.lives
