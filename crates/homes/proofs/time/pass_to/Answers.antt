use Rattle.std.proofs.Common.{◌≡◌, ◌∙◌, ◌<◌, true≢false, arith, length, get_or, sym, refl}
use Rattle.std.specs.Prelude.{Some, slice_get}
use Rattle.std.proofs.lemmas.Option.{slice_get-get_or, slice_get_within}
use Rattle.homes.specs.Tells.{HasPassedTo}
use Rattle.homes.specs.declared.homes.Home.{Home}
use Rattle.homes.proofs.Passing.{ahead_more, all_more, passed_more}
use Rattle.homes.proofs.time.pass_to.Goals as goal
use Rattle.homes.proofs.time.pass_to.Goals.{then-not-home+in_ok-tick_to, else-not-home}

pub tick_to-requires-clause-above : goal.tick_to-requires-clause-above
tick_to-requires-clause-above c =
    let homes = c.loop-home.homes in
    let n = c.loop-home.home-index in
    let x = get_or homes n c.home-item.result in
    let low : n < length homes = omega (arith, c.loop-home-test.true, c.loop-home.invariant.all) in
    (c.requires.may n x (sym (c.loop-home.invariant.ahead n (omega arith)) ∙ slice_get-get_or homes n c.home-item.result low) c.if-not-home.true).above

pub tick_to-requires-clause-before : goal.tick_to-requires-clause-before
tick_to-requires-clause-before c =
    let homes = c.loop-home.homes in
    let n = c.loop-home.home-index in
    let x = get_or homes n c.home-item.result in
    let low : n < length homes = omega (arith, c.loop-home-test.true, c.loop-home.invariant.all) in
    (c.requires.may n x (sym (c.loop-home.invariant.ahead n (omega arith)) ∙ slice_get-get_or homes n c.home-item.result low) c.if-not-home.true).before

pub tick_to-requires-clause-near : goal.tick_to-requires-clause-near
tick_to-requires-clause-near c =
    let homes = c.loop-home.homes in
    let n = c.loop-home.home-index in
    let x = get_or homes n c.home-item.result in
    let low : n < length homes = omega (arith, c.loop-home-test.true, c.loop-home.invariant.all) in
    (c.requires.may n x (sym (c.loop-home.invariant.ahead n (omega arith)) ∙ slice_get-get_or homes n c.home-item.result low) c.if-not-home.true).near

pub loop-home-preserved : goal.loop-home-preserved
loop-home-preserved c =
    let old = c.args.homes.now in
    let homes = c.loop-home.homes in
    let n = c.loop-home.home-index in
    let x = get_or homes n c.home-item.result in
    let low : n < length homes = omega (arith, c.loop-home-test.true, c.loop-home.invariant.all) in
    let here : slice_get homes n ≡ Some x = slice_get-get_or homes n c.home-item.result low in
    let was : slice_get old n ≡ Some x = sym (c.loop-home.invariant.ahead n (omega arith)) ∙ here in
    elim c.if-not-home.branch [
      | then-not-home+in_ok-tick_to w ↦
          let new : Home = record x { instance = w.tick_to.new.self } in
          let passed : HasPassedTo c.args.second x new = record {
            origin = refl;
            gone = refl;
            work = refl;
            shuts = refl;
            ready = w.in_ok-tick_to.ensures.ready;
            makes = λ _. w.in_ok-tick_to.ensures.makes;
          } in
          record {
            all = all_more c.args.second old homes n x new here was c.if-not-home.homes w.homes-is c.loop-home.invariant.all;
            passed = passed_more c.args.second old homes n x new here was c.if-not-home.homes w.homes-is c.loop-home.invariant.passed passed;
            ahead = ahead_more c.args.second old homes n x new here was c.if-not-home.homes w.homes-is c.loop-home.invariant.ahead;
          }
      | else-not-home w ↦
          let passed : HasPassedTo c.args.second x x = record {
            origin = refl;
            gone = refl;
            work = refl;
            shuts = refl;
            ready = c.requires.ready n x was;
            makes = λ lives. absurd (true≢false (sym w.if-not-home.false ∙ lives));
          } in
          record {
            all = all_more c.args.second old homes n x x here was c.if-not-home.homes w.homes-is c.loop-home.invariant.all;
            passed = passed_more c.args.second old homes n x x here was c.if-not-home.homes w.homes-is c.loop-home.invariant.passed passed;
            ahead = ahead_more c.args.second old homes n x x here was c.if-not-home.homes w.homes-is c.loop-home.invariant.ahead;
          }
    ]

pub returns : goal.returns
returns c = record {
  all = c.loop-home.invariant.all;
  each = λ i h one e f. (let low = slice_get_within c.args.homes.now i h e in c.loop-home.invariant.passed i h one (omega (arith, low, c.loop-home-test.false)) e f);
}
