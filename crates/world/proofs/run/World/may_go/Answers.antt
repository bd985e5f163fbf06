use Rattle.std.proofs.Common.{◌∙◌, ap, sym, subst}
use Rattle.homes.specs.Homes.{AreReady}
use Rattle.world.specs.View.{value_of}
use Rattle.world.proofs.Housing.{all_ready}
use Rattle.world.proofs.run.World.may_go.Goals as goal

pub may_go-requires : goal.may_go-requires
may_go-requires c =
    let v = value_of c.self.inside in
    let h = c.self.invariant (ap (λ v. v.spent) c.self.view_is ∙ c.requires.ready) in
    subst AreReady (sym c.deref.ensures.value) (all_ready v (h.runs (ap (λ v. v.closed) c.self.view_is ∙ c.requires.runs)))
