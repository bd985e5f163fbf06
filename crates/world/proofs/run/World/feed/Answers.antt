use Rattle.std.proofs.Common.{◌≡◌, ◌∙◌, true, ap, subst}
use Rattle.instance.specs.Steps.{can_feed as instance_can_feed}
use Rattle.world.specs.Acting.{IsPlacedIn}
use Rattle.world.specs.Steps.{can_feed, of_home}
use Rattle.world.specs.View.{value_of}
use Rattle.world.proofs.Finding.{feeder_at, feeder_lives, placed_in}
use Rattle.world.proofs.run.World.feed.Goals as goal

pub feed_in-requires-clause-home : goal.feed_in-requires-clause-home
feed_in-requires-clause-home c =
    let v = value_of c.self.inside in
    let at = feeder_at v c.args.actor (ap (λ w. can_feed w c.args.actor) c.self.view_is ∙ c.requires.can.1) c.index.result.now c.index.ensures in
    subst (λ w. IsPlacedIn w.places c.args.actor c.in-Some.number) c.self.view_is (placed_in v.places c.args.actor c.in-Some.number c.index.result.now at c.in-Some.is)

pub feed_in-requires-clause-can : goal.feed_in-requires-clause-can
feed_in-requires-clause-can c =
    let v = value_of c.self.inside in
    let can = ap (λ w. can_feed w c.args.actor) c.self.view_is ∙ c.requires.can.1 in
    let at = feeder_at v c.args.actor can c.index.result.now c.index.ensures in
    subst (λ w. of_home w c.in-Some.number (λ h. instance_can_feed h.instance c.args.actor) ≡ true) c.self.view_is
    (feeder_lives v c.args.actor c.in-Some.number c.index.result.now at c.in-Some.is can)
