use Rattle.std.proofs.Common.{◌∙◌, ap, sym, subst}
use Rattle.std.specs.Prelude.{IsTrue, ◌↔◌}
use Rattle.homes.specs.Homes.{living_at}
use Rattle.world.specs.Steps.{CanMake}
use Rattle.world.specs.View.{value_of}
use Rattle.world.proofs.Housing.{living_ready, runs_in}
use Rattle.world.proofs.run.World.can.Goals as goal

pub can_turn-requires : goal.can_turn-requires
can_turn-requires c =
    let v = value_of c.self.inside in
    let runs = runs_in c.self.inside c.args.self.now c.self.view_is c.self.invariant c.requires c.if-self.false in
    living_ready v runs c.in-Kvs.instance c.in-Some.home.now (c.in-Some.ensures ∙ ap (λ w. living_at w.homes c.in-Kvs.instance) (sym c.self.view_is))

pub can_post-requires : goal.can_post-requires
can_post-requires c =
    let v = value_of c.self.inside in
    let runs = runs_in c.self.inside c.args.self.now c.self.view_is c.self.invariant c.requires c.if-self.false in
    living_ready v runs c.in-Post.instance c.in-Some-living.home.now (c.in-Some-living.ensures ∙ ap (λ w. living_at w.homes c.in-Post.instance) (sym c.self.view_is))

pub birth-requires : goal.birth-requires
birth-requires c =
    let v = value_of c.self.inside in
    let runs = runs_in c.self.inside c.args.self.now c.self.view_is c.self.invariant c.requires c.if-self.false in
    living_ready v runs c.in-Birth.instance c.in-Some-living-2.home.now (c.in-Some-living-2.ensures ∙ ap (λ w. living_at w.homes c.in-Birth.instance) (sym c.self.view_is))

pub returns-in-Close : goal.returns-in-Close
returns-in-Close c =
    let runs = sym (ap (λ w. w.closed) c.self.view_is) ∙ c.if-self.false in
    subst (λ s. IsTrue c.is_over.result ↔ CanMake c.args.self.now s) (sym c.in-Close.is)
    (λ e. (runs, c.is_over.ensures.exact.0 e), λ can. c.is_over.ensures.exact.1 can.1)
