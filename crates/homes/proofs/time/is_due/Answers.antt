use Rattle.std.proofs.Common.{◌≡◌, ◌∙◌, ◌<◌, Bool, true, false, true≢false, ◌&&◌, ap, length, sym, refl, rules}
use Rattle.std.specs.Prelude.{not}
use Rattle.instance.specs.Family.{is_due}
use Rattle.homes.specs.Times.{has_due}
use Rattle.homes.specs.Tells.{TellsIdle}
use Rattle.homes.proofs.Walking.{any_more, living_all, living_more}
use Rattle.homes.proofs.time.is_due.Goals as goal
use Rattle.homes.proofs.time.is_due.Goals.{else-not-home-via-then-not-home+else-is_due, else-not-home-via-else-not-home}

off : (gone due : Bool) → due ≡ false → (not gone && due) ≡ false
off true due e = refl
off false due e = e

pub loop-home-preserved : goal.loop-home-preserved
loop-home-preserved c =
    let homes = c.args.homes.now in
    let n = c.loop-home.home-index in
    let x = c.home-item.result in
    let low : n < length homes = c.loop-home-test.true in
    elim c.else-not-home.branch [
      | else-not-home-via-then-not-home+else-is_due w ↦ record {
        none = any_more homes n x low c.home-item.is has_due c.loop-home.invariant.none (off x.gone (is_due x.instance) (sym w.is_due.ensures.exact ∙ w.if-is_due.false));
        told = living_more TellsIdle homes n x low c.home-item.is c.loop-home.invariant.told (λ _. record { idle = λ set own agrees. w.is_due.ensures.idle set own agrees w.if-is_due.false });
      }
      | else-not-home-via-else-not-home w ↦
          let gone : x.gone ≡ true = search rules in
          record {
            none = any_more homes n x low c.home-item.is has_due c.loop-home.invariant.none (ap (λ b. not b && is_due x.instance) gone);
            told = living_more TellsIdle homes n x low c.home-item.is c.loop-home.invariant.told (λ lives. absurd (true≢false (sym gone ∙ lives)));
          }
    ]

pub returns-clause-told : goal.returns-clause-told
returns-clause-told c = λ _. living_all TellsIdle c.args.homes.now c.loop-home.home-index c.loop-home-test.false c.loop-home.invariant.told
