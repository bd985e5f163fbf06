use Rattle.std.proofs.Common.{sym, arith}
use Rattle.world.specs.Order.{all_before_end}
use Rattle.world.proofs.Numbering.{below, lengthy}
use Rattle.world.proofs.run.World.count.Goals as goal

pub returns-in-Ok : goal.returns-in-Ok
returns-in-Ok c =
    let more = below (all_before_end c.args.self.now) 18446744073709551615 c.in-Ok.field-0 (sym c.in-Ok.ensures.value) in
    omega (arith, more)

pub returns-in-Err : goal.returns-in-Err
returns-in-Err c =
    let all = lengthy (all_before_end c.args.self.now) 18446744073709551615 c.in-Err.left (sym c.in-Err.ensures.value) in
    omega (arith, all)
