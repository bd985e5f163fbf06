use Rattle.std.proofs.Common.{◌≡◌, ◌∙◌, ◌<◌, ◌^◌, ap, arith, length, subst, sym}
use Rattle.std.proofs.lemmas.Bool.{eqb-true}
use Rattle.world.specs.Choice.{lanes_of}
use Rattle.world.proofs.Lookers.{alone_quiet, closed_quiet}
use Rattle.world.proofs.run.World.looker.Goals as goal

pub returns-then-self-clause-none : goal.returns-then-self-clause-none
returns-then-self-clause-none c = λ _ _. closed_quiet c.args.self.now (sym (ap (λ v. v.closed) c.self.view_is) ∙ c.if-self.true)

pub returns-clause-none : goal.returns-clause-none
returns-clause-none c = λ none alone.
    let v = c.args.self.now in
    let one : c.lanes.result ≡ 1 = c.lanes.ensures.value ∙ ap (λ w. lanes_of w.order) c.self.view_is ∙ eqb-true (lanes_of v.order) 1 alone in
    alone_quiet v c.lanes.result c.args.lane one (c.looker_in.ensures.none none)

pub looker_in-requires-clause-few : goal.looker_in-requires-clause-few
looker_in-requires-clause-few c =
    let sound = c.self.invariant (ap (λ v. v.spent) c.self.view_is ∙ c.requires) in
    let all = (sound.runs c.if-self.false).places.all in
    let most = sound.run.within.actors in
    subst (λ v. length v.places < 2 ^ 32) c.self.view_is (omega (arith, all, most))
