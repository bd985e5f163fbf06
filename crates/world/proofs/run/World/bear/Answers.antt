use Rattle.std.proofs.Common.{◌≡◌, ◌∙◌, ◌<◌, ◌+◌, ◌-◌, ◌^◌, [], ◌∷◌, ◌++◌, false, true, ap, arith, length, refl, subst, sym}
use Rattle.std.specs.Prelude.{slice_set}
use Rattle.std.specs.Vec.{with_items}
use Rattle.std.proofs.lemmas.List.{with_items_is}
use Rattle.instance.specs.answers.Chronicle.{top}
use Rattle.instance.specs.answers.declared.steps.Step.TheVariants as step
use Rattle.hierarchy.specs.Births.{Birth}
use Rattle.hierarchy.specs.Families.{second_in}
use Rattle.hierarchy.specs.Own.{own_of, setup_in}
use Rattle.instance.specs.Family.{bearing}
use Rattle.world.specs.Advances.{Advances}
use Rattle.homes.specs.Inside.{AreSettled, IsChildHome}
use Rattle.world.specs.Sound.{IsSound}
use Rattle.world.specs.Steps.{can_make, is_job}
use Rattle.world.specs.View.{value_of}
use Rattle.world.proofs.Advancing.{advances_at}
use Rattle.world.proofs.Birth.{birth_advances, birth_sound, early_now, few_places, home_agrees, job_is, next_number, top_is}
use Rattle.homes.proofs.Families.{home_lives, says_here}
use Rattle.world.proofs.Stepping.{stepped}
use Rattle.world.proofs.run.World.bear.Goals as goal

pub second-second-requires : goal.second-second-requires
second-second-requires c =
    let v = value_of c.self.inside in
    let h : IsSound v = c.self.invariant (ap (λ v. v.spent) c.self.view_is ∙ c.requires.ready) in
    let runs : v.closed ≡ false = ap (λ v. v.closed) c.self.view_is ∙ c.requires.can.0 in
    (top_is v h runs c.index.result.now c.index.ensures).ready

pub bear_for-requires-clause-ready : goal.bear_for-requires-clause-ready
bear_for-requires-clause-ready c =
    let v = value_of c.self.inside in
    let h : IsSound v = c.self.invariant (ap (λ v. v.spent) c.self.view_is ∙ c.requires.ready) in
    let runs : v.closed ≡ false = ap (λ v. v.closed) c.self.view_is ∙ c.requires.can.0 in
    let can : can_make v (step.Birth c.args.parent c.args.job) ≡ true = ap (λ v. can_make v (step.Birth c.args.parent c.args.job)) c.self.view_is ∙ c.requires.can.1 in
    let p = c.index_mut.result.now in
    let says = says_here v.homes (λ h. is_job c.args.job (bearing h.instance)) c.args.parent p can c.index_mut.ensures.value in
    ((h.runs runs).homes.each c.args.parent p says.0).ready

pub bear_for-requires-clause-due : goal.bear_for-requires-clause-due
bear_for-requires-clause-due c =
    let v = value_of c.self.inside in
    let h : IsSound v = c.self.invariant (ap (λ v. v.spent) c.self.view_is ∙ c.requires.ready) in
    let runs : v.closed ≡ false = ap (λ v. v.closed) c.self.view_is ∙ c.requires.can.0 in
    let can : can_make v (step.Birth c.args.parent c.args.job) ≡ true = ap (λ v. can_make v (step.Birth c.args.parent c.args.job)) c.self.view_is ∙ c.requires.can.1 in
    let p = c.index_mut.result.now in
    let says = says_here v.homes (λ h. is_job c.args.job (bearing h.instance)) c.args.parent p can c.index_mut.ensures.value in
    job_is c.args.job (bearing p.instance) says.2

pub child_home-requires-clause-some : goal.child_home-requires-clause-some
child_home-requires-clause-some c =
    let v = value_of c.self.inside in
    let h : IsSound v = c.self.invariant (ap (λ v. v.spent) c.self.view_is ∙ c.requires.ready) in
    let runs : v.closed ≡ false = ap (λ v. v.closed) c.self.view_is ∙ c.requires.can.0 in
    let can : can_make v (step.Birth c.args.parent c.args.job) ≡ true = ap (λ v. can_make v (step.Birth c.args.parent c.args.job)) c.self.view_is ∙ c.requires.can.1 in
    let p = c.index_mut.result.now in
    let says = says_here v.homes (λ h. is_job c.args.job (bearing h.instance)) c.args.parent p can c.index_mut.ensures.value in
    c.in_ok-label.ensures.some (setup_in v.set v.chronicle c.args.parent) (own_of v.set v.chronicle c.args.parent) (home_agrees v h runs c.args.parent p says.0 says.1)

pub child_home-requires-clause-early : goal.child_home-requires-clause-early
child_home-requires-clause-early c =
    let v = value_of c.self.inside in
    let h : IsSound v = c.self.invariant (ap (λ v. v.spent) c.self.view_is ∙ c.requires.ready) in
    let runs : v.closed ≡ false = ap (λ v. v.closed) c.self.view_is ∙ c.requires.can.0 in
    let first = top_is v h runs c.index.result.now c.index.ensures in
    let now : c.second-second.result ≡ second_in v.set v.chronicle =
    c.second-second.ensures.value ∙ (c.second-second.ensures.agrees (setup_in v.set v.chronicle top) (own_of v.set v.chronicle top) first.agrees).0 in
    subst (λ n. n + 2000000000 < 2 ^ 64) (sym now) (early_now v h runs)

pub settle-requires : goal.settle-requires
settle-requires c =
    let v = value_of c.self.inside in
    let h : IsSound v = c.self.invariant (ap (λ v. v.spent) c.self.view_is ∙ c.requires.ready) in
    let runs : v.closed ≡ false = ap (λ v. v.closed) c.self.view_is ∙ c.requires.can.0 in
    few_places v h runs c.deref_mut.result.now c.deref_mut.ensures.value

pub invariant_of-self-2 : goal.invariant_of-self-2
invariant_of-self-2 c = λ _.
    let v = value_of c.self.inside in
    let h : IsSound v = c.self.invariant (ap (λ v. v.spent) c.self.view_is ∙ c.requires.ready) in
    let runs : v.closed ≡ false = ap (λ v. v.closed) c.self.view_is ∙ c.requires.can.0 in
    let can : can_make v (step.Birth c.args.parent c.args.job) ≡ true = ap (λ v. can_make v (step.Birth c.args.parent c.args.job)) c.self.view_is ∙ c.requires.can.1 in
    let p = c.index_mut.result.now in
    let says = says_here v.homes (λ h. is_job c.args.job (bearing h.instance)) c.args.parent p can c.index_mut.ensures.value in
    let child = c.in-Ok.count - 1 in
    let many : length v.homes + 1 < 2 ^ 32 = omega (arith, c.in-Ok.ensures) in
    let number : child ≡ length v.homes = omega (arith, c.in-Ok.ensures) in
    let b : Birth = record { child = child; parent = c.args.parent; job = c.args.job; label = c.in_ok-label.label; second = c.second-second.result; grant = c.in_ok-label.grant } in
    let first = top_is v h runs c.index.result.now c.index.ensures in
    let now = c.second-second.ensures.value ∙ (c.second-second.ensures.agrees (setup_in v.set v.chronicle top) (own_of v.set v.chronicle top) first.agrees).0 in
    let legal = c.in_ok-label.ensures.legal v.set v.chronicle child c.args.parent b.second (home_lives v.set v.chronicle v.homes (h.runs runs).homes h.legal c.args.parent p says.0 says.1)
    (home_agrees v h runs c.args.parent p says.0 says.1) (number ∙ next_number v h runs) now in
    let is : IsChildHome v.set b c.in_ok-home.home = c.in_ok-home.ensures v.set b refl refl refl refl refl refl (sym c.in_ok-copy.ensures) refl refl in
    let settled = subst (λ x. AreSettled v.set.work.actors b.label child x c.settle.new.places) c.deref_mut.ensures.value c.settle.ensures in
    let long : length c.settle.new.places ≡ c.self.inside.places.len = (let same = settled.all in omega arith) in
    subst (λ x. IsSound (stepped v c.push-2.new.self c.keep.new.steps.items c.keep.new.ends.items x (with_items c.self.inside.places c.settle.new.places).items)) (sym c.in_ok-push.ensures.items)
    (subst (λ x. IsSound (stepped v c.push-2.new.self c.keep.new.steps.items c.keep.new.ends.items (slice_set v.homes b.parent (record p { instance = c.bear_for.new.outer }) ++ c.in_ok-home.home ∷ []) x))
    (sym (with_items_is c.self.inside.places c.settle.new.places long))
    (birth_sound v h runs b p says.0 says.1 legal c.bear_for.new.outer c.in_ok-label.ensures.ready c.in_ok-label.ensures.bears c.in_ok-home.home is many c.settle.new.places settled
    c.push-2.new.self c.keep.new.steps.items c.keep.new.ends.items c.in_ok-push-2.ensures.added c.in_ok-keep.ensures.steps c.in_ok-keep.ensures.ends))

pub returns-clause-advances : goal.returns-clause-advances
returns-clause-advances c =
    let v = value_of c.self.inside in
    let h : IsSound v = c.self.invariant (ap (λ v. v.spent) c.self.view_is ∙ c.requires.ready) in
    let runs : v.closed ≡ false = ap (λ v. v.closed) c.self.view_is ∙ c.requires.can.0 in
    let can : can_make v (step.Birth c.args.parent c.args.job) ≡ true = ap (λ v. can_make v (step.Birth c.args.parent c.args.job)) c.self.view_is ∙ c.requires.can.1 in
    let p = c.index_mut.result.now in
    let says = says_here v.homes (λ h. is_job c.args.job (bearing h.instance)) c.args.parent p can c.index_mut.ensures.value in
    let child = c.in-Ok.count - 1 in
    let many : length v.homes + 1 < 2 ^ 32 = omega (arith, c.in-Ok.ensures) in
    let number : child ≡ length v.homes = omega (arith, c.in-Ok.ensures) in
    let b : Birth = record { child = child; parent = c.args.parent; job = c.args.job; label = c.in_ok-label.label; second = c.second-second.result; grant = c.in_ok-label.grant } in
    let first = top_is v h runs c.index.result.now c.index.ensures in
    let now = c.second-second.ensures.value ∙ (c.second-second.ensures.agrees (setup_in v.set v.chronicle top) (own_of v.set v.chronicle top) first.agrees).0 in
    let legal = c.in_ok-label.ensures.legal v.set v.chronicle child c.args.parent b.second (home_lives v.set v.chronicle v.homes (h.runs runs).homes h.legal c.args.parent p says.0 says.1)
    (home_agrees v h runs c.args.parent p says.0 says.1) (number ∙ next_number v h runs) now in
    let is : IsChildHome v.set b c.in_ok-home.home = c.in_ok-home.ensures v.set b refl refl refl refl refl refl (sym c.in_ok-copy.ensures) refl refl in
    let settled = subst (λ x. AreSettled v.set.work.actors b.label child x c.settle.new.places) c.deref_mut.ensures.value c.settle.ensures in
    let long : length c.settle.new.places ≡ c.self.inside.places.len = (let same = settled.all in omega arith) in
    advances_at c.self.view_is
    (subst (λ x. Advances v (step.Birth b.parent b.job) (stepped v c.push-2.new.self c.keep.new.steps.items c.keep.new.ends.items x (with_items c.self.inside.places c.settle.new.places).items)) (sym c.in_ok-push.ensures.items)
    (subst (λ x. Advances v (step.Birth b.parent b.job) (stepped v c.push-2.new.self c.keep.new.steps.items c.keep.new.ends.items (slice_set v.homes b.parent (record p { instance = c.bear_for.new.outer }) ++ c.in_ok-home.home ∷ []) x))
    (sym (with_items_is c.self.inside.places c.settle.new.places long))
    (birth_advances v h runs b p says.0 says.1 legal c.bear_for.new.outer c.in_ok-label.ensures.ready c.in_ok-label.ensures.bears c.in_ok-home.home is many c.settle.new.places settled
    c.push-2.new.self c.keep.new.steps.items c.keep.new.ends.items c.in_ok-push-2.ensures.added c.in_ok-keep.ensures.steps c.in_ok-keep.ensures.ends)))
