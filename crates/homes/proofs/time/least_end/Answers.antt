use Rattle.std.proofs.Common.{◌≡◌, ◌+◌, ◌<◌, [], true, false, true≢false, ◌∙◌, ap, length, sym, subst, rules, take}
use Rattle.std.specs.Prelude.{if◌then◌else◌}
use Rattle.instance.specs.Family.{ends_left}
use Rattle.instance.specs.job_book.Seconds.{IsSoonest}
use Rattle.homes.specs.Times.{all_ends, of_living}
use Rattle.homes.specs.Tells.{TellsEnds}
use Rattle.homes.proofs.Walking.{flat_more, living_all, living_more, soonest_past}
use Rattle.homes.proofs.time.least_end.Goals as goal
use Rattle.homes.proofs.time.least_end.Goals.{then-not-home, else-not-home}

pub loop-home-preserved : goal.loop-home-preserved
loop-home-preserved c =
    let homes = c.args.homes.now in
    let n = c.loop-home.home-index in
    let x = c.home-item.result in
    let low : n < length homes = c.loop-home-test.true in
    let more = flat_more homes n x low c.home-item.is (of_living (λ h. ends_left h.instance)) in
    elim c.if-not-home.branch [
      | then-not-home w ↦
          let lives : x.gone ≡ false = search rules in
          let here = subst (λ b. IsSoonest (if b then [] else ends_left x.instance) w.next_end.result) (sym lives) w.next_end.ensures.soonest in
          record {
            soonest = subst (IsSoonest (all_ends (take (n + 1) homes))) (sym w.least-is)
                (subst (λ ys. IsSoonest ys w.sooner-least.result) (sym more) (w.sooner-least.ensures _ _ c.loop-home.invariant.soonest here));
            told = living_more TellsEnds homes n x low c.home-item.is c.loop-home.invariant.told (λ _. record { ends = w.next_end.ensures.ends });
          }
      | else-not-home w ↦
          let gone : x.gone ≡ true = search rules in
          let none : of_living (λ h. ends_left h.instance) x ≡ [] = ap (λ b. if b then [] else ends_left x.instance) gone in
          record {
            soonest = subst (IsSoonest (all_ends (take (n + 1) homes))) (sym w.least-is)
                (subst (λ ys. IsSoonest ys c.loop-home.least) (sym more) (soonest_past _ _ c.loop-home.least none c.loop-home.invariant.soonest));
            told = living_more TellsEnds homes n x low c.home-item.is c.loop-home.invariant.told (λ lives. absurd (true≢false (sym gone ∙ lives)));
          }
    ]

pub returns-clause-told : goal.returns-clause-told
returns-clause-told c = living_all TellsEnds c.args.homes.now c.loop-home.home-index c.loop-home-test.false c.loop-home.invariant.told
