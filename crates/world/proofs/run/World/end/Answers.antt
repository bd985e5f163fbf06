use Rattle.std.proofs.Common.{◌≡◌, ◌∙◌, ◌<◌, ◌^◌, ◌++◌, false, true, ap, arith, get_or, length, subst, sym}
use Rattle.std.specs.Prelude.{filter_map, slice_set}
use Rattle.std.proofs.lemmas.List.{with_items_is}
use Rattle.std.proofs.lemmas.Option.{slice_get_within}
use Rattle.instance.specs.answers.declared.steps.Step.TheVariants as step
use Rattle.hierarchy.specs.Inside.{marked_below}
use Rattle.instance.specs.Family.{may_end}
use Rattle.world.specs.Advances.{Advances}
use Rattle.homes.specs.Inside.{AreInside, AreRising, HaveGone, end_at}
use Rattle.world.specs.Sound.{IsSound}
use Rattle.world.specs.Steps.{can_make}
use Rattle.world.specs.View.{value_of}
use Rattle.world.proofs.Advancing.{advances_at}
use Rattle.world.proofs.Ending.{ends_advance, ends_sound, leaves, parent_read}
use Rattle.homes.proofs.Families.{rising}
use Rattle.homes.proofs.Marking.{mark_at}
use Rattle.world.proofs.Stepping.{stepped}
use Rattle.world.proofs.run.World.end.Goals as goal

pub within-requires : goal.within-requires
within-requires c =
    let v = value_of c.self.inside in
    let h : IsSound v = c.self.invariant (ap (λ v. v.spent) c.self.view_is ∙ c.requires.ready) in
    let runs : v.closed ≡ false = ap (λ v. v.closed) c.self.view_is ∙ c.requires.can.0 in
    let same : c.deref.result.now ≡ v.homes = c.deref.ensures.value in
    subst AreRising (sym same) (rising v.set v.chronicle v.homes (h.runs runs).homes h.legal)

pub tell_ends-requires : goal.tell_ends-requires
tell_ends-requires c =
    let v = value_of c.self.inside in
    let h : IsSound v = c.self.invariant (ap (λ v. v.spent) c.self.view_is ∙ c.requires.ready) in
    let runs : v.closed ≡ false = ap (λ v. v.closed) c.self.view_is ∙ c.requires.can.0 in
    let long : length c.deref-3.result.now ≡ length v.homes = ap length c.deref-3.ensures.value ∙ c.in_ok-marks.ensures.all ∙ ap length c.deref.ensures.value in
    subst (λ n. n < 2 ^ 32) (sym long) (h.runs runs).homes.few

pub overflow_cast-parent : goal.overflow_cast-parent
overflow_cast-parent c =
    let v = value_of c.self.inside in
    let h : IsSound v = c.self.invariant (ap (λ v. v.spent) c.self.view_is ∙ c.requires.ready) in
    let runs : v.closed ≡ false = ap (λ v. v.closed) c.self.view_is ∙ c.requires.can.0 in
    let can : can_make v (step.End c.args.number) ≡ true = ap (λ v. can_make v (step.End c.args.number)) c.self.view_is ∙ c.requires.can.1 in
    let o = c.in-Some.origin in
    let l = leaves v h runs c.args.number c.index-home.result.now o can c.index-home.ensures c.in-Some.is in
    let within = slice_get_within v.homes o.parent l.may.p l.may.bearer in
    let few = (h.runs runs).homes.few in
    omega (arith, within, few)

pub index_mut-requires : goal.index_mut-requires
index_mut-requires c =
    let v = value_of c.self.inside in
    let h : IsSound v = c.self.invariant (ap (λ v. v.spent) c.self.view_is ∙ c.requires.ready) in
    let runs : v.closed ≡ false = ap (λ v. v.closed) c.self.view_is ∙ c.requires.can.0 in
    let can : can_make v (step.End c.args.number) ≡ true = ap (λ v. can_make v (step.End c.args.number)) c.self.view_is ∙ c.requires.can.1 in
    let o = c.in-Some.origin in
    let l = leaves v h runs c.args.number c.index-home.result.now o can c.index-home.ensures c.in-Some.is in
    let within = slice_get_within v.homes o.parent l.may.p l.may.bearer in
    omega (arith, within, c.self.inside.homes.ok.0)

pub release-requires-clause-ready : goal.release-requires-clause-ready
release-requires-clause-ready c =
    let v = value_of c.self.inside in
    let h : IsSound v = c.self.invariant (ap (λ v. v.spent) c.self.view_is ∙ c.requires.ready) in
    let runs : v.closed ≡ false = ap (λ v. v.closed) c.self.view_is ∙ c.requires.can.0 in
    let can : can_make v (step.End c.args.number) ≡ true = ap (λ v. can_make v (step.End c.args.number)) c.self.view_is ∙ c.requires.can.1 in
    let o = c.in-Some.origin in
    let l = leaves v h runs c.args.number c.index-home.result.now o can c.index-home.ensures c.in-Some.is in
    let gone : HaveGone c.in_ok-marks.marks.items v.homes c.let_go.new.homes =
    subst (λ m. HaveGone m v.homes c.let_go.new.homes) c.deref-4.ensures.value
    (subst (λ x. HaveGone c.deref-4.result.now x c.let_go.new.homes) c.deref_mut.ensures.value c.let_go.ensures) in
    let long : length c.let_go.new.homes ≡ c.self.inside.homes.len = (let same = gone.all in omega arith) in
    let left = with_items_is c.self.inside.homes c.let_go.new.homes long in
    let told = parent_read v.homes c.let_go.new.homes c.in_ok-marks.marks.items o.parent l.may.p c.index_mut.result.now gone l.may.bearer
    (c.index_mut.ensures.value ∙ ap (λ x. get_or x o.parent c.index_mut.result.now) left) in
    ap (λ x. x.instance.spent) told ∙ ((h.runs runs).homes.each o.parent l.may.p l.may.bearer).ready

pub release-requires-clause-may : goal.release-requires-clause-may
release-requires-clause-may c =
    let v = value_of c.self.inside in
    let h : IsSound v = c.self.invariant (ap (λ v. v.spent) c.self.view_is ∙ c.requires.ready) in
    let runs : v.closed ≡ false = ap (λ v. v.closed) c.self.view_is ∙ c.requires.can.0 in
    let can : can_make v (step.End c.args.number) ≡ true = ap (λ v. can_make v (step.End c.args.number)) c.self.view_is ∙ c.requires.can.1 in
    let o = c.in-Some.origin in
    let l = leaves v h runs c.args.number c.index-home.result.now o can c.index-home.ensures c.in-Some.is in
    let gone : HaveGone c.in_ok-marks.marks.items v.homes c.let_go.new.homes =
    subst (λ m. HaveGone m v.homes c.let_go.new.homes) c.deref-4.ensures.value
    (subst (λ x. HaveGone c.deref-4.result.now x c.let_go.new.homes) c.deref_mut.ensures.value c.let_go.ensures) in
    let long : length c.let_go.new.homes ≡ c.self.inside.homes.len = (let same = gone.all in omega arith) in
    let left = with_items_is c.self.inside.homes c.let_go.new.homes long in
    let told = parent_read v.homes c.let_go.new.homes c.in_ok-marks.marks.items o.parent l.may.p c.index_mut.result.now gone l.may.bearer
    (c.index_mut.ensures.value ∙ ap (λ x. get_or x o.parent c.index_mut.result.now) left) in
    ap (λ x. may_end x.instance o.job c.index-home.result.now.shuts) told ∙ l.may.may

pub invariant_of-self-2 : goal.invariant_of-self-2
invariant_of-self-2 c = λ _.
    let v = value_of c.self.inside in
    let h : IsSound v = c.self.invariant (ap (λ v. v.spent) c.self.view_is ∙ c.requires.ready) in
    let runs : v.closed ≡ false = ap (λ v. v.closed) c.self.view_is ∙ c.requires.can.0 in
    let can : can_make v (step.End c.args.number) ≡ true = ap (λ v. can_make v (step.End c.args.number)) c.self.view_is ∙ c.requires.can.1 in
    let o = c.in-Some.origin in
    let l = leaves v h runs c.args.number c.index-home.result.now o can c.index-home.ensures c.in-Some.is in
    let gone : HaveGone c.in_ok-marks.marks.items v.homes c.let_go.new.homes =
    subst (λ m. HaveGone m v.homes c.let_go.new.homes) c.deref-4.ensures.value
    (subst (λ x. HaveGone c.deref-4.result.now x c.let_go.new.homes) c.deref_mut.ensures.value c.let_go.ensures) in
    let long : length c.let_go.new.homes ≡ c.self.inside.homes.len = (let same = gone.all in omega arith) in
    let left = with_items_is c.self.inside.homes c.let_go.new.homes long in
    let told = parent_read v.homes c.let_go.new.homes c.in_ok-marks.marks.items o.parent l.may.p c.index_mut.result.now gone l.may.bearer
    (c.index_mut.ensures.value ∙ ap (λ x. get_or x o.parent c.index_mut.result.now) left) in
    let marks = c.in_ok-marks.marks.items in
    let x = c.index_mut.result.now in
    let new = c.release.new.outer in
    let inside : AreInside c.args.number v.homes marks = subst (λ y. AreInside c.args.number y marks) c.deref.ensures.value c.in_ok-marks.ensures in
    let ends : c.tell_ends.new.chronicle ≡ v.chronicle ++ filter_map (end_at v.homes) (marked_below (mark_at marks) (length marks)) =
    c.in_ok-tell_ends.ensures
    ∙ ap (λ y. v.chronicle ++ filter_map (end_at y) (marked_below (mark_at c.deref-3.result.now) (length c.deref-3.result.now))) c.deref-2.ensures.value
    ∙ ap (λ m. v.chronicle ++ filter_map (end_at v.homes) (marked_below (mark_at m) (length m))) c.deref-3.ensures.value in
    subst (λ y. IsSound (stepped v c.tell_ends.new.chronicle c.keep.new.steps.items c.keep.new.ends.items (slice_set y o.parent (record x { instance = new })) v.places)) (sym left)
    (ends_sound v h runs c.args.number c.index-home.result.now o l marks inside c.let_go.new.homes gone x told new c.in_ok-release.ensures.ready c.in_ok-release.ensures.lets_go c.in_ok-release.ensures.due
    c.tell_ends.new.chronicle c.keep.new.steps.items c.keep.new.ends.items ends c.in_ok-keep.ensures.steps c.in_ok-keep.ensures.ends)

pub returns-clause-advances : goal.returns-clause-advances
returns-clause-advances c =
    let v = value_of c.self.inside in
    let h : IsSound v = c.self.invariant (ap (λ v. v.spent) c.self.view_is ∙ c.requires.ready) in
    let runs : v.closed ≡ false = ap (λ v. v.closed) c.self.view_is ∙ c.requires.can.0 in
    let can : can_make v (step.End c.args.number) ≡ true = ap (λ v. can_make v (step.End c.args.number)) c.self.view_is ∙ c.requires.can.1 in
    let o = c.in-Some.origin in
    let l = leaves v h runs c.args.number c.index-home.result.now o can c.index-home.ensures c.in-Some.is in
    let gone : HaveGone c.in_ok-marks.marks.items v.homes c.let_go.new.homes =
    subst (λ m. HaveGone m v.homes c.let_go.new.homes) c.deref-4.ensures.value
    (subst (λ x. HaveGone c.deref-4.result.now x c.let_go.new.homes) c.deref_mut.ensures.value c.let_go.ensures) in
    let long : length c.let_go.new.homes ≡ c.self.inside.homes.len = (let same = gone.all in omega arith) in
    let left = with_items_is c.self.inside.homes c.let_go.new.homes long in
    let told = parent_read v.homes c.let_go.new.homes c.in_ok-marks.marks.items o.parent l.may.p c.index_mut.result.now gone l.may.bearer
    (c.index_mut.ensures.value ∙ ap (λ x. get_or x o.parent c.index_mut.result.now) left) in
    let marks = c.in_ok-marks.marks.items in
    let x = c.index_mut.result.now in
    let new = c.release.new.outer in
    let inside : AreInside c.args.number v.homes marks = subst (λ y. AreInside c.args.number y marks) c.deref.ensures.value c.in_ok-marks.ensures in
    let ends : c.tell_ends.new.chronicle ≡ v.chronicle ++ filter_map (end_at v.homes) (marked_below (mark_at marks) (length marks)) =
    c.in_ok-tell_ends.ensures
    ∙ ap (λ y. v.chronicle ++ filter_map (end_at y) (marked_below (mark_at c.deref-3.result.now) (length c.deref-3.result.now))) c.deref-2.ensures.value
    ∙ ap (λ m. v.chronicle ++ filter_map (end_at v.homes) (marked_below (mark_at m) (length m))) c.deref-3.ensures.value in
    advances_at c.self.view_is
    (subst (λ y. Advances v (step.End c.args.number) (stepped v c.tell_ends.new.chronicle c.keep.new.steps.items c.keep.new.ends.items (slice_set y o.parent (record x { instance = new })) v.places)) (sym left)
    (ends_advance v h runs c.args.number c.index-home.result.now o l marks inside c.let_go.new.homes gone x told new c.in_ok-release.ensures.ready c.in_ok-release.ensures.lets_go c.in_ok-release.ensures.due
    c.tell_ends.new.chronicle c.keep.new.steps.items c.keep.new.ends.items ends c.in_ok-keep.ensures.steps c.in_ok-keep.ensures.ends))
