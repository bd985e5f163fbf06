use Rattle.std.proofs.Common.{◌∙◌, ◌<◌, length, sym}
use Rattle.homes.specs.Times.{may_go}
use Rattle.homes.specs.Tells.{TellsEndIn}
use Rattle.homes.proofs.Walking.{any_more, living_all, living_more}
use Rattle.homes.proofs.time.is_ending.Goals as goal

pub loop-home-preserved : goal.loop-home-preserved
loop-home-preserved c =
    let homes = c.args.homes.now in
    let n = c.loop-home.home-index in
    let x = c.home-item.result in
    let low : n < length homes = c.loop-home-test.true in
    record {
      none = any_more homes n x low c.home-item.is (may_go homes) c.loop-home.invariant.none (sym c.may_go.ensures.exact ∙ c.if-may_go.false);
      told = living_more (TellsEndIn homes) homes n x low c.home-item.is c.loop-home.invariant.told c.may_go.ensures.told;
    }

pub returns-clause-told : goal.returns-clause-told
returns-clause-told c = λ _. living_all (TellsEndIn c.args.homes.now) c.args.homes.now c.loop-home.home-index c.loop-home-test.false c.loop-home.invariant.told
