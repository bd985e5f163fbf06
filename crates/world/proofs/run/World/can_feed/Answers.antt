use Rattle.std.proofs.Common.{◌≡◌, ◌∙◌, ◌&&◌, length, ap, sym, arith}
use Rattle.std.specs.Prelude.{not}
use Rattle.std.specs.Vec.{vec_len}
use Rattle.instance.specs.Steps.{can_feed as instance_can_feed}
use Rattle.world.specs.Steps.{can_feed}
use Rattle.world.specs.View.{value_of}
use Rattle.world.proofs.Housing.{home_read, home_within, read_there, runs_at}
use Rattle.world.proofs.Ordering.{feed_at}
use Rattle.world.proofs.run.World.can_feed.Goals.{After-index-home}
use Rattle.world.proofs.run.World.can_feed.Goals as goal

pub index-home-requires : goal.index-home-requires
index-home-requires c =
    let v = value_of c.self.inside in
    let runs = runs_at c.self.inside c.args.self.now c.self.view_is c.self.invariant c.requires.ready c.requires.runs in
    let place = read_there v.places c.deref.result.now c.args.actor c.in-Some.place.now c.deref.ensures.value c.in-Some.ensures.lookup.3.0 c.in-Some.ensures.lookup.1 in
    let low = home_within v runs c.args.actor c.in-Some-home.number c.in-Some.place.now place c.in-Some-home.is in
    let long : vec_len c.self.inside.homes ≡ length c.self.inside.homes.items = c.self.inside.homes.ok.0 in
    omega (arith, low, long)

pub can_feed-requires : goal.can_feed-requires
can_feed-requires c =
    let v = value_of c.self.inside in
    let runs = runs_at c.self.inside c.args.self.now c.self.view_is c.self.invariant c.requires.ready c.requires.runs in
    let place = read_there v.places c.deref.result.now c.args.actor c.in-Some.place.now c.deref.ensures.value c.in-Some.ensures.lookup.3.0 c.in-Some.ensures.lookup.1 in
    (home_read v runs c.in-Some-home.number c.index-home.result.now (home_within v runs c.args.actor c.in-Some-home.number c.in-Some.place.now place c.in-Some-home.is) c.index-home.ensures).1

-- what is said of an actor whose instance is looked at
said : (c : After-index-home) → (not c.index-home.result.now.gone && instance_can_feed c.index-home.result.now.instance c.args.actor) ≡ can_feed c.args.self.now c.args.actor
said c =
    let v = value_of c.self.inside in
    let runs = runs_at c.self.inside c.args.self.now c.self.view_is c.self.invariant c.requires.ready c.requires.runs in
    let p = c.in-Some.place.now in
    let h = c.index-home.result.now in
    let place = read_there v.places c.deref.result.now c.args.actor p c.deref.ensures.value c.in-Some.ensures.lookup.3.0 c.in-Some.ensures.lookup.1 in
    let here = home_read v runs c.in-Some-home.number h (home_within v runs c.args.actor c.in-Some-home.number p place c.in-Some-home.is) c.index-home.ensures in
    sym (feed_at v c.args.actor c.in-Some-home.number p h place c.in-Some-home.is here.0) ∙ ap (λ w. can_feed w c.args.actor) c.self.view_is

pub returns-then-not-home : goal.returns-then-not-home
returns-then-not-home c =
    let h = c.index-home.result.now in
    c.can_feed.ensures
    ∙ sym (ap (λ b. not b && instance_can_feed h.instance c.args.actor) c.if-not-home.true)
    ∙ said (goal.at.returns-then-not-home c).After-index-home

pub returns-else-not-home : goal.returns-else-not-home
returns-else-not-home c =
    let h = c.index-home.result.now in
    ap not c.if-not-home.false
    ∙ sym (ap (λ b. not b && instance_can_feed h.instance c.args.actor) c.if-not-home.false)
    ∙ said (goal.at.returns-else-not-home c).After-index-home
