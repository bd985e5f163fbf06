use Rattle.std.proofs.Common.{◌<◌, length}
use Rattle.homes.specs.Tells.{TellsEndIn, TellsRest}
use Rattle.homes.proofs.Walking.{living_all, living_more}
use Rattle.homes.proofs.time.rest.Goals as goal

pub loop-home-preserved : goal.loop-home-preserved
loop-home-preserved c =
    let homes = c.args.homes.now in
    let n = c.loop-home.home-index in
    let x = c.home-item.result in
    let low : n < length homes = c.loop-home-test.true in
    record {
      rest = living_more TellsRest homes n x low c.home-item.is c.loop-home.invariant.rest (λ _. record { rests = c.still.ensures.rests; free = c.still.ensures.free });
      goes = living_more (TellsEndIn homes) homes n x low c.home-item.is c.loop-home.invariant.goes c.may_go.ensures.told;
    }

pub returns-clause-rest : goal.returns-clause-rest
returns-clause-rest c = living_all TellsRest c.args.homes.now c.loop-home.home-index c.loop-home-test.false c.loop-home.invariant.rest

pub returns-clause-goes : goal.returns-clause-goes
returns-clause-goes c = living_all (TellsEndIn c.args.homes.now) c.args.homes.now c.loop-home.home-index c.loop-home-test.false c.loop-home.invariant.goes
