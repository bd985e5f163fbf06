use Rattle.std.proofs.Common.{◌≡◌, arith, ap, count_by, false, rules}
use Rattle.world.specs.Choice.{is_loss}
use Rattle.lanes.proofs.running.run_over.Goals as goal

pub new-requires-clause-losses : goal.new-requires-clause-losses
new-requires-clause-losses g c =
    let none = ap (count_by is_loss) c.requires.begins.1 in
    let left = c.requires.losses in
    omega (arith, none, left)

pub returns-clause-losses : goal.returns-clause-losses
returns-clause-losses g c =
    let live : c.finish-world.result.spent ≡ false = search rules in
    let all = c.finish-world.ensures.losses live in
    omega (arith, all)
