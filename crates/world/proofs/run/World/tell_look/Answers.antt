use Rattle.std.proofs.Common.{◌∙◌, ◌≤◌, ap, arith, subst, sym}
use Rattle.std.specs.Prelude.{IsSomeAnd}
use Rattle.instance.specs.answers.Chronicle.{top}
use Rattle.hierarchy.specs.Heard.{heard_at}
use Rattle.world.specs.Looks.{look_at}
use Rattle.world.specs.View.{value_of}
use Rattle.world.specs.declared.run.looking.Looker.{Looker}
use Rattle.world.proofs.Acting.{look_advances, look_sound}
use Rattle.world.proofs.Advancing.{advances_at}
use Rattle.world.proofs.Finding.{placed_at, placed_in}
use Rattle.world.proofs.Lookers.{actor_within, known_so, some_looker, still_runs, top_look, top_within}
use Rattle.world.proofs.Running.{home_is}
use Rattle.world.proofs.run.World.tell_look.Goals as goal

pub index_mut-requires : goal.index_mut-requires
index_mut-requires c =
    let v = value_of c.self.inside in
    let sound = c.self.invariant (ap (λ v. v.spent) c.self.view_is ∙ c.requires.ready) in
    let a = c.args.actor in
    let n = c.args.number in
    let told : Looker → Type 0 = λ looker. (looker.need ≤ n) × (n ≤ heard_at v.chronicle looker.broker) in
    let open_ = subst (λ w. IsSomeAnd (look_at w a) (λ looker. (looker.need ≤ n) × (n ≤ heard_at w.chronicle looker.broker))) (sym c.self.view_is) c.requires.open in
    let runs = still_runs v a told open_ in
    let l = some_looker v a told open_ in
    let within = top_within v sound runs a l.0 l.1 n in
    omega (arith, within, c.self.inside.homes.ok.0)

pub record-requires-clause-ready : goal.record-requires-clause-ready
record-requires-clause-ready c =
    let v = value_of c.self.inside in
    let sound = c.self.invariant (ap (λ v. v.spent) c.self.view_is ∙ c.requires.ready) in
    let a = c.args.actor in
    let n = c.args.number in
    let told : Looker → Type 0 = λ looker. (looker.need ≤ n) × (n ≤ heard_at v.chronicle looker.broker) in
    let open_ = subst (λ w. IsSomeAnd (look_at w a) (λ looker. (looker.need ≤ n) × (n ≤ heard_at w.chronicle looker.broker))) (sym c.self.view_is) c.requires.open in
    let runs = still_runs v a told open_ in
    let l = some_looker v a told open_ in
    let t = top_look v sound runs a l.0 l.1 n l.2.0 c.index_mut.result.now c.index_mut.ensures.value in
    (home_is v sound runs top c.index_mut.result.now t.here).ready

pub record-requires-clause-open : goal.record-requires-clause-open
record-requires-clause-open c =
    let v = value_of c.self.inside in
    let sound = c.self.invariant (ap (λ v. v.spent) c.self.view_is ∙ c.requires.ready) in
    let a = c.args.actor in
    let n = c.args.number in
    let told : Looker → Type 0 = λ looker. (looker.need ≤ n) × (n ≤ heard_at v.chronicle looker.broker) in
    let open_ = subst (λ w. IsSomeAnd (look_at w a) (λ looker. (looker.need ≤ n) × (n ≤ heard_at w.chronicle looker.broker))) (sym c.self.view_is) c.requires.open in
    let runs = still_runs v a told open_ in
    let l = some_looker v a told open_ in
    (top_look v sound runs a l.0 l.1 n l.2.0 c.index_mut.result.now c.index_mut.ensures.value).need

pub index_mut-requires-2 : goal.index_mut-requires-2
index_mut-requires-2 c =
    let v = value_of c.self.inside in
    let sound = c.self.invariant (ap (λ v. v.spent) c.self.view_is ∙ c.requires.ready) in
    let a = c.args.actor in
    let n = c.args.number in
    let told : Looker → Type 0 = λ looker. (looker.need ≤ n) × (n ≤ heard_at v.chronicle looker.broker) in
    let open_ = subst (λ w. IsSomeAnd (look_at w a) (λ looker. (looker.need ≤ n) × (n ≤ heard_at w.chronicle looker.broker))) (sym c.self.view_is) c.requires.open in
    let runs = still_runs v a told open_ in
    let l = some_looker v a told open_ in
    let within = actor_within v sound runs a l.0 l.1 in
    omega (arith, within, c.self.inside.places.ok.0)

pub invariant_of-self-2 : goal.invariant_of-self-2
invariant_of-self-2 c = λ _.
    let v = value_of c.self.inside in
    let sound = c.self.invariant (ap (λ v. v.spent) c.self.view_is ∙ c.requires.ready) in
    let a = c.args.actor in
    let n = c.args.number in
    let told : Looker → Type 0 = λ looker. (looker.need ≤ n) × (n ≤ heard_at v.chronicle looker.broker) in
    let open_ = subst (λ w. IsSomeAnd (look_at w a) (λ looker. (looker.need ≤ n) × (n ≤ heard_at w.chronicle looker.broker))) (sym c.self.view_is) c.requires.open in
    let runs = still_runs v a told open_ in
    let l = some_looker v a told open_ in
    let h = c.index_mut.result.now in
    let t = top_look v sound runs a l.0 l.1 n l.2.0 h c.index_mut.ensures.value in
    let known = known_so v sound runs a l.0 l.1 (c.hearings_rise.ensures.tied v.set v.chronicle l.0.broker sound.legal) n l.2.1 in
    let at = placed_at v.places a top (placed_in v.places a top t.p t.standing t.home) c.index_mut-2.result.now c.index_mut-2.ensures.value in
    look_sound v sound runs a top c.index_mut-2.result.now h at.here at.home t.here t.living n known c.record.new.self c.in_ok-made.made c.in_ok-made.ensures.ready
    c.in_ok-made.ensures.makes c.enter.new.chronicle c.keep.new.steps.items c.keep.new.ends.items c.in_ok-enter.ensures c.in_ok-keep.ensures.steps c.in_ok-keep.ensures.ends

pub returns-clause-advances : goal.returns-clause-advances
returns-clause-advances c =
    let v = value_of c.self.inside in
    let sound = c.self.invariant (ap (λ v. v.spent) c.self.view_is ∙ c.requires.ready) in
    let a = c.args.actor in
    let n = c.args.number in
    let told : Looker → Type 0 = λ looker. (looker.need ≤ n) × (n ≤ heard_at v.chronicle looker.broker) in
    let open_ = subst (λ w. IsSomeAnd (look_at w a) (λ looker. (looker.need ≤ n) × (n ≤ heard_at w.chronicle looker.broker))) (sym c.self.view_is) c.requires.open in
    let runs = still_runs v a told open_ in
    let l = some_looker v a told open_ in
    let h = c.index_mut.result.now in
    let t = top_look v sound runs a l.0 l.1 n l.2.0 h c.index_mut.ensures.value in
    let known = known_so v sound runs a l.0 l.1 (c.hearings_rise.ensures.tied v.set v.chronicle l.0.broker sound.legal) n l.2.1 in
    let at = placed_at v.places a top (placed_in v.places a top t.p t.standing t.home) c.index_mut-2.result.now c.index_mut-2.ensures.value in
    advances_at c.self.view_is (look_advances v sound runs a top c.index_mut-2.result.now h at.here at.home t.here t.living n known c.record.new.self c.in_ok-made.made c.in_ok-made.ensures.ready
    c.in_ok-made.ensures.makes c.enter.new.chronicle c.keep.new.steps.items c.keep.new.ends.items c.in_ok-enter.ensures c.in_ok-keep.ensures.steps c.in_ok-keep.ensures.ends)
