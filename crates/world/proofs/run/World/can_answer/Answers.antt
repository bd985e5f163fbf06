use Rattle.std.proofs.Common.{◌≡◌, ◌∙◌, length, ap, sym, subst, arith}
use Rattle.std.specs.Prelude.{if◌then◌else◌}
use Rattle.std.specs.Vec.{vec_len}
use Rattle.instance.specs.Steps.{can_answer as instance_can_answer}
use Rattle.world.specs.Steps.{can_answer}
use Rattle.world.specs.View.{value_of}
use Rattle.world.proofs.Housing.{home_read, home_within, read_there, runs_at}
use Rattle.world.proofs.Ordering.{answer_at}
use Rattle.world.proofs.run.World.can_answer.Goals as goal

pub index-home-requires : goal.index-home-requires
index-home-requires c =
    let v = value_of c.self.inside in
    let runs = runs_at c.self.inside c.args.self.now c.self.view_is c.self.invariant c.requires.ready c.requires.runs in
    let place = read_there v.places c.deref.result.now c.args.actor c.in-Some.place.now c.deref.ensures.value c.in-Some.ensures.lookup.3.0 c.in-Some.ensures.lookup.1 in
    let low = home_within v runs c.args.actor c.in-Some-home.number c.in-Some.place.now place c.in-Some-home.is in
    let long : vec_len c.self.inside.homes ≡ length c.self.inside.homes.items = c.self.inside.homes.ok.0 in
    omega (arith, low, long)

pub can_answer-requires : goal.can_answer-requires
can_answer-requires c =
    let v = value_of c.self.inside in
    let runs = runs_at c.self.inside c.args.self.now c.self.view_is c.self.invariant c.requires.ready c.requires.runs in
    let place = read_there v.places c.deref.result.now c.args.actor c.in-Some.place.now c.deref.ensures.value c.in-Some.ensures.lookup.3.0 c.in-Some.ensures.lookup.1 in
    (home_read v runs c.in-Some-home.number c.index-home.result.now (home_within v runs c.args.actor c.in-Some-home.number c.in-Some.place.now place c.in-Some-home.is) c.index-home.ensures).1

pub returns-then-home : goal.returns-then-home
returns-then-home c =
    let v = value_of c.self.inside in
    let runs = runs_at c.self.inside c.args.self.now c.self.view_is c.self.invariant c.requires.ready c.requires.runs in
    let p = c.in-Some.place.now in
    let h = c.index-home.result.now in
    let place = read_there v.places c.deref.result.now c.args.actor p c.deref.ensures.value c.in-Some.ensures.lookup.3.0 c.in-Some.ensures.lookup.1 in
    let here = home_read v runs c.in-Some-home.number h (home_within v runs c.args.actor c.in-Some-home.number p place c.in-Some-home.is) c.index-home.ensures in
    subst (λ w. p.waits ≡ can_answer w c.args.actor) c.self.view_is
    (sym (answer_at v c.args.actor c.in-Some-home.number p h place c.in-Some-home.is here.0 ∙ ap (λ b. if b then p.waits else instance_can_answer h.instance c.args.actor) c.if-home.true))

pub returns-else-home : goal.returns-else-home
returns-else-home c =
    let v = value_of c.self.inside in
    let runs = runs_at c.self.inside c.args.self.now c.self.view_is c.self.invariant c.requires.ready c.requires.runs in
    let p = c.in-Some.place.now in
    let h = c.index-home.result.now in
    let place = read_there v.places c.deref.result.now c.args.actor p c.deref.ensures.value c.in-Some.ensures.lookup.3.0 c.in-Some.ensures.lookup.1 in
    let here = home_read v runs c.in-Some-home.number h (home_within v runs c.args.actor c.in-Some-home.number p place c.in-Some-home.is) c.index-home.ensures in
    subst (λ w. c.can_answer.result ≡ can_answer w c.args.actor) c.self.view_is
    (c.can_answer.ensures ∙ sym (answer_at v c.args.actor c.in-Some-home.number p h place c.in-Some-home.is here.0 ∙ ap (λ b. if b then p.waits else instance_can_answer h.instance c.args.actor) c.if-home.false))
