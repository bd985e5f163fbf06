use Rattle.std.proofs.Common.{◌∙◌, ap}
use Rattle.std.specs.Prelude.{option_and_then, slice_get}
use Rattle.instance.specs.Steps.{can_feed}
use Rattle.world.specs.Steps.{of_home}
use Rattle.world.specs.View.{value_of}
use Rattle.homes.specs.declared.homes.Home.{Home}
use Rattle.world.proofs.Feeding.{feed_advances, feed_sound}
use Rattle.world.proofs.Advancing.{advances_at}
use Rattle.world.proofs.Finding.{placed_there}
use Rattle.world.proofs.Running.{home_is}
use Rattle.world.proofs.Serving.{living_found}
use Rattle.world.proofs.run.World.feed_in.Goals as goal

pub feed-requires-clause-ready : goal.feed-requires-clause-ready
feed-requires-clause-ready c =
    let v = value_of c.self.inside in
    let sound = c.self.invariant (ap (λ v. v.spent) c.self.view_is ∙ c.requires.ready) in
    let runs = ap (λ v. v.closed) c.self.view_is ∙ c.requires.runs in
    let says = λ (h : Home). can_feed h.instance c.args.actor in
    let there = living_found v.homes c.args.number says (ap (λ w. of_home w c.args.number says) c.self.view_is ∙ c.requires.can) c.index_mut.result.now c.index_mut.ensures.value in
    (home_is v sound runs c.args.number c.index_mut.result.now there.here).ready

pub feed-requires-clause-can : goal.feed-requires-clause-can
feed-requires-clause-can c =
    let says = λ (h : Home). can_feed h.instance c.args.actor in
    (living_found (value_of c.self.inside).homes c.args.number says (ap (λ w. of_home w c.args.number says) c.self.view_is ∙ c.requires.can) c.index_mut.result.now c.index_mut.ensures.value).true_of

pub invariant_of-self-2 : goal.invariant_of-self-2
invariant_of-self-2 c = λ _.
    let v = value_of c.self.inside in
    let sound = c.self.invariant (ap (λ v. v.spent) c.self.view_is ∙ c.requires.ready) in
    let runs = ap (λ v. v.closed) c.self.view_is ∙ c.requires.runs in
    let says = λ (h : Home). can_feed h.instance c.args.actor in
    let there = living_found v.homes c.args.number says (ap (λ w. of_home w c.args.number says) c.self.view_is ∙ c.requires.can) c.index_mut.result.now c.index_mut.ensures.value in
    let at = placed_there v.places c.args.actor c.args.number (ap (λ w. option_and_then (λ p. p.home) (slice_get w.places c.args.actor)) c.self.view_is ∙ c.requires.home) in
    feed_sound v sound runs c.args.actor c.args.number at.0 c.index_mut.result.now at.1 at.2 there.here there.living c.feed.new.self c.in_ok-made.made c.in_ok-made.ensures.ready
    c.in_ok-made.ensures.makes c.enter.new.chronicle c.keep.new.steps.items c.keep.new.ends.items c.in_ok-enter.ensures c.in_ok-keep.ensures.steps c.in_ok-keep.ensures.ends

pub returns-clause-advances : goal.returns-clause-advances
returns-clause-advances c =
    let v = value_of c.self.inside in
    let sound = c.self.invariant (ap (λ v. v.spent) c.self.view_is ∙ c.requires.ready) in
    let runs = ap (λ v. v.closed) c.self.view_is ∙ c.requires.runs in
    let says = λ (h : Home). can_feed h.instance c.args.actor in
    let there = living_found v.homes c.args.number says (ap (λ w. of_home w c.args.number says) c.self.view_is ∙ c.requires.can) c.index_mut.result.now c.index_mut.ensures.value in
    let at = placed_there v.places c.args.actor c.args.number (ap (λ w. option_and_then (λ p. p.home) (slice_get w.places c.args.actor)) c.self.view_is ∙ c.requires.home) in
    advances_at c.self.view_is (feed_advances v sound runs c.args.actor c.args.number at.0 c.index_mut.result.now at.1 at.2 there.here there.living c.feed.new.self c.in_ok-made.made c.in_ok-made.ensures.ready
    c.in_ok-made.ensures.makes c.enter.new.chronicle c.keep.new.steps.items c.keep.new.ends.items c.in_ok-enter.ensures c.in_ok-keep.ensures.steps c.in_ok-keep.ensures.ends)
