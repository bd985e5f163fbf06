use Rattle.std.proofs.Common.{◌≡◌, ◌∙◌, ◌++◌, false, ap, sym, subst}
use Rattle.std.specs.Prelude.{IfSome}
use Rattle.std.specs.List.{list_any}
use Rattle.instance.specs.manager_rules.Times.{IsLeast}
use Rattle.homes.specs.Homes.{AreReady}
use Rattle.homes.specs.Times.{all_ends, all_targets, is_left}
use Rattle.world.specs.Steps.{can_tick}
use Rattle.homes.specs.Tells.{TellAll}
use Rattle.world.specs.View.{value_of}
use Rattle.world.proofs.Housing.{all_ready}
use Rattle.world.proofs.Seconds.{can_so, if_least, if_some}
use Rattle.world.proofs.run.World.next_second.Goals.{After-as_slice-homes}
use Rattle.world.proofs.run.World.next_second.Goals as goal

ready : (c : After-as_slice-homes) → AreReady c.as_slice-homes.result.now
ready c =
    let v = value_of c.self.inside in
    let h = c.self.invariant (ap (λ v. v.spent) c.self.view_is ∙ c.requires.ready) in
    subst AreReady (sym c.as_slice-homes.ensures.value) (all_ready v (h.runs (ap (λ v. v.closed) c.self.view_is ∙ c.requires.runs)))

pub is_due-requires : goal.is_due-requires
is_due-requires c = ready c

pub is_ending-requires : goal.is_ending-requires
is_ending-requires c = ready (goal.at.is_ending-requires c).After-as_slice-homes

pub least_target-requires : goal.least_target-requires
least_target-requires c = ready (goal.at.least_target-requires c).After-as_slice-homes

pub least_end-requires : goal.least_end-requires
least_end-requires c = ready (goal.at.least_end-requires c).After-as_slice-homes

pub returns-clause-can : goal.returns-clause-can
returns-clause-can c =
    let v = value_of c.self.inside in
    let homes = c.as_slice-homes.result.now in
    let left : list_any (is_left homes) v.places ≡ false = ap (list_any (is_left homes)) (sym c.deref.ensures.value) ∙ sym c.are_left.ensures ∙ c.if-are_left.false in
    let all = can_so (record v { homes = homes }) c.in_ok-target.target c.sooner.result
    (sym c.is_due.ensures.exact ∙ c.if-is_due.false) (sym c.is_ending.ensures.exact ∙ c.if-is_ending.false) left c.in_ok-target.ensures.soonest
    (c.sooner.ensures (all_targets homes) (all_ends homes) c.in_ok-target.ensures.soonest c.least_end.ensures.soonest) in
    all ∙ ap (λ hs. can_tick (record v { homes = hs })) c.as_slice-homes.ensures.value ∙ ap can_tick c.self.view_is

pub returns-clause-soonest : goal.returns-clause-soonest
returns-clause-soonest c =
    let homes = c.as_slice-homes.result.now in
    subst (λ hs. IfSome c.sooner.result (λ second. IsLeast (all_targets hs ++ all_ends hs) second)) (c.as_slice-homes.ensures.value ∙ ap (λ v. v.homes) c.self.view_is)
    (if_least (all_targets homes ++ all_ends homes) c.sooner.result (c.sooner.ensures (all_targets homes) (all_ends homes) c.in_ok-target.ensures.soonest c.least_end.ensures.soonest))

pub returns-clause-told : goal.returns-clause-told
returns-clause-told c =
    let told : TellAll c.as_slice-homes.result.now = record {
      idle = c.is_due.ensures.told c.if-is_due.false;
      targets = c.in_ok-target.ensures.told;
      ends = c.least_end.ensures.told;
      goes = c.is_ending.ensures.told c.if-is_ending.false;
    } in
    subst (λ hs. IfSome c.sooner.result (λ second. TellAll hs)) (c.as_slice-homes.ensures.value ∙ ap (λ v. v.homes) c.self.view_is) (if_some c.sooner.result told)
