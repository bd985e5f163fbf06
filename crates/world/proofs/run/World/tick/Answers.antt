use Rattle.std.proofs.Common.{◌≡◌, ◌∙◌, ◌++◌, true, false, ap, sym, subst}
use Rattle.std.proofs.lemmas.List.{with_items_is}
use Rattle.instance.specs.answers.declared.steps.Step.TheVariants as step
use Rattle.instance.specs.manager_rules.Times.{IsLeast}
use Rattle.world.specs.Advances.{Advances}
use Rattle.homes.specs.Homes.{AreReady}
use Rattle.world.specs.Sound.{IsSound}
use Rattle.homes.specs.Times.{all_ends, all_targets}
use Rattle.world.specs.Steps.{can_tick}
use Rattle.homes.specs.Tells.{EachLiving, HavePassedTo, MayPassTo, TellAll}
use Rattle.world.specs.View.{value_of}
use Rattle.world.proofs.Advancing.{advances_at}
use Rattle.world.proofs.Housing.{all_ready}
use Rattle.world.proofs.Stepping.{stepped}
use Rattle.world.proofs.Ticking.{all_may_pass, tick_advances, tick_sound}
use Rattle.world.proofs.run.World.tick.Goals.{In-Some, In_ok-pass_to}
use Rattle.world.proofs.run.World.tick.Goals as goal

-- what is known of the world before the tick
sound : (c : In-Some) → IsSound (value_of c.self.inside)
sound c = c.self.invariant (ap (λ v. v.spent) c.self.view_is ∙ c.requires.ready)

runs : (c : In-Some) → (value_of c.self.inside).closed ≡ false
runs c = ap (λ v. v.closed) c.self.view_is ∙ c.requires.can.0

can : (c : In-Some) → can_tick (value_of c.self.inside) ≡ true
can c = ap can_tick c.self.view_is ∙ c.requires.can.1

least : (c : In-Some) → IsLeast (all_targets (value_of c.self.inside).homes ++ all_ends (value_of c.self.inside).homes) c.in-Some.second
least c = subst (λ w. IsLeast (all_targets w.homes ++ all_ends w.homes) c.in-Some.second) (sym c.self.view_is) c.in-Some.ensures.soonest

tells : (c : In-Some) → TellAll (value_of c.self.inside).homes
tells c = subst (λ w. TellAll w.homes) (sym c.self.view_is) c.in-Some.ensures.told

-- and of its instances behind it
passed : (c : In_ok-pass_to) → HavePassedTo c.in-Some.second (value_of c.self.inside).homes c.pass_to.new.homes
passed c = subst (λ hs. HavePassedTo c.in-Some.second hs c.pass_to.new.homes) c.deref_mut.ensures.value c.in_ok-pass_to.ensures

pub pass_to-requires-clause-ready : goal.pass_to-requires-clause-ready
pass_to-requires-clause-ready c =
    let at = (goal.at.pass_to-requires-clause-ready c).In-Some in
    subst AreReady (sym c.deref_mut.ensures.value) (all_ready (value_of c.self.inside) ((sound at).runs (runs at)))

pub pass_to-requires-clause-may : goal.pass_to-requires-clause-may
pass_to-requires-clause-may c =
    let at = (goal.at.pass_to-requires-clause-may c).In-Some in
    subst (EachLiving (MayPassTo c.in-Some.second)) (sym c.deref_mut.ensures.value) (all_may_pass (value_of c.self.inside) (sound at) (runs at) (can at) (tells at) c.in-Some.second (least at))

pub invariant_of-self-2 : goal.invariant_of-self-2
invariant_of-self-2 c = λ _.
    let v = value_of c.self.inside in
    let at = (goal.at.invariant_of-self-2 c).In-Some in
    let behind = passed (goal.at.invariant_of-self-2 c).In_ok-pass_to in
    let all = with_items_is c.self.inside.homes c.pass_to.new.homes (behind.all ∙ sym c.self.inside.homes.ok.0) in
    subst (λ hs. IsSound (stepped v c.push.new.self c.keep.new.steps.items c.keep.new.ends.items hs v.places)) (sym all)
    (tick_sound v (sound at) (runs at) (can at) (tells at) c.in-Some.second (least at) c.pass_to.new.homes behind
    c.push.new.self c.keep.new.steps.items c.keep.new.ends.items c.in_ok-push.ensures.added c.in_ok-keep.ensures.steps c.in_ok-keep.ensures.ends)

pub returns-clause-advances : goal.returns-clause-advances
returns-clause-advances c =
    let v = value_of c.self.inside in
    let at = (goal.at.returns-clause-advances c).In-Some in
    let behind = passed (goal.at.returns-clause-advances c).In_ok-pass_to in
    let all = with_items_is c.self.inside.homes c.pass_to.new.homes (behind.all ∙ sym c.self.inside.homes.ok.0) in
    advances_at c.self.view_is (subst (λ hs. Advances v step.Tick (stepped v c.push.new.self c.keep.new.steps.items c.keep.new.ends.items hs v.places)) (sym all)
    (tick_advances v (sound at) (runs at) (can at) (tells at) c.in-Some.second (least at) c.pass_to.new.homes behind
    c.push.new.self c.keep.new.steps.items c.keep.new.ends.items c.in_ok-push.ensures.added c.in_ok-keep.ensures.steps c.in_ok-keep.ensures.ends))
