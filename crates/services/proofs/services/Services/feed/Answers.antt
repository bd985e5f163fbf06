use Rattle.std.proofs.Common.{◌∙◌, ◌++◌, ◌∷◌, [], ap, sym, subst}
use Rattle.job_service.specs.instance_rules.Log.{Fed}
use Rattle.services.specs.Agrees.{AgreesServices}
use Rattle.services.specs.View.{IsFit, value_of}
use Rattle.services.proofs.Turning.{jobs-fit, onward}
use Rattle.services.proofs.services.Services.feed.Goals as goal

pub invariant_of-self-2 : goal.invariant_of-self-2
invariant_of-self-2 c = λ _.
    let v = value_of c.self.inside in
    let fit : IsFit v = c.self.invariant (ap (λ v. v.spent) c.self.view_is ∙ c.requires.ready) in
    let e = c.in_ok-fed.ensures in
    jobs-fit v fit c.feed.new.self e.ready e.counts.size

pub returns-clause-feeds : goal.returns-clause-feeds
returns-clause-feeds c = λ inst log a₀.
    let a = subst (λ v. AgreesServices v inst log) (sym c.self.view_is) a₀ in
    let fed = c.in_ok-fed.fed in
    let f = c.in_ok-fed.ensures.feeds inst log a.jobs in
    record {
      number = f.number;
      legal = f.legal;
      agrees = onward (value_of c.self.inside) c.feed.new.self inst log (log ++ Fed c.args.by fed.number fed.first fed.count ∷ []) a f.agrees;
    }
