use Rattle.std.proofs.Common.{◌∙◌, ◌<◌, ap, arith, length, sym}
use Rattle.std.specs.List.{enumerate_from}
use Rattle.std.proofs.lemmas.List.FromFn.{length-enumerate_from}
use Rattle.world.specs.Order.{steps_at}
use Rattle.homes.proofs.Standing.{item_at}
use Rattle.homes.proofs.Walking.{enumerated, walk_end, walk_here, walk_more}
use Rattle.world.proofs.run.World.nth_of.Goals as goal

pub returns-in-Ok : goal.returns-in-Ok
returns-in-Ok c =
    let v = c.args.self.now in
    let n = c.loop-instance.instance in
    let same = ap (λ v. length v.homes) c.self.view_is in
    let low : n < length v.homes = omega (arith, same, c.loop-instance-test.true, c.len-instance-end.ensures) in
    let h = item_at v.homes n low in
    let all = length-enumerate_from 0 v.homes in
    walk_here (enumerate_from 0 v.homes) n (n, h.0) (omega (arith, low, all)) (enumerated v.homes n h.0 h.1) (steps_at v c.args.kind) c.loop-instance.left c.in-Ok.step (sym (c.in-Ok.ensures h.0 h.1))
    ∙ c.loop-instance.invariant

pub loop-instance-preserved : goal.loop-instance-preserved
loop-instance-preserved c =
    let v = c.args.self.now in
    let n = c.loop-instance.instance in
    let same = ap (λ v. length v.homes) c.self.view_is in
    let low : n < length v.homes = omega (arith, same, c.loop-instance-test.true, c.len-instance-end.ensures) in
    let h = item_at v.homes n low in
    let all = length-enumerate_from 0 v.homes in
    walk_more (enumerate_from 0 v.homes) n (n, h.0) (omega (arith, low, all)) (enumerated v.homes n h.0 h.1) (steps_at v c.args.kind) c.loop-instance.left c.in-Err.behind (sym (c.in-Err.ensures h.0 h.1))
    ∙ c.loop-instance.invariant

pub returns : goal.returns
returns c =
    let v = c.args.self.now in
    let same = ap (λ v. length v.homes) c.self.view_is in
    let all = length-enumerate_from 0 v.homes in
    walk_end (enumerate_from 0 v.homes) c.loop-instance.instance (steps_at v c.args.kind) c.loop-instance.left (omega (arith, same, all, c.loop-instance-test.false, c.len-instance-end.ensures)) ∙ c.loop-instance.invariant
