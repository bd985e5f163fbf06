use Rattle.std.proofs.Common.{◌∙◌, ap, sym, subst}
use Rattle.services.specs.Agrees.{AgreesServices}
use Rattle.services.specs.View.{IsFit, value_of}
use Rattle.services.proofs.Turning.{jobs-fit, onward}
use Rattle.services.proofs.services.Services.post.Goals as goal

pub invariant_of-self-2 : goal.invariant_of-self-2
invariant_of-self-2 c = λ _.
    let v = value_of c.self.inside in
    let fit : IsFit v = c.self.invariant (ap (λ v. v.spent) c.self.view_is ∙ c.requires.ready) in
    let e = c.in_ok-post.ensures in
    jobs-fit v fit c.post.new.self e.ready e.counts.size

pub returns-clause-agrees : goal.returns-clause-agrees
returns-clause-agrees c = λ inst log a₀.
    let a = subst (λ v. AgreesServices v inst log) (sym c.self.view_is) a₀ in
    onward (value_of c.self.inside) c.post.new.self inst log log a (c.in_ok-post.ensures.agrees inst log a.jobs)
