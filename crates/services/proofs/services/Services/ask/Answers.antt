use Rattle.std.proofs.Common.{◌∙◌, ◌++◌, ◌∷◌, [], ap, sym, subst}
use Rattle.job_service.specs.kvs_rules.Log.{Asked}
use Rattle.job_service.specs.instance_rules.Log.{Served}
use Rattle.job_service.specs.Agrees.{IsNewAsk}
use Rattle.services.specs.Agrees.{AgreesServices}
use Rattle.services.specs.Asks.{MayAsk}
use Rattle.services.specs.View.{IsFit, value_of}
use Rattle.services.proofs.Turning.{jobs-fit, onward}
use Rattle.services.proofs.services.Services.ask.Goals as goal

pub ask-requires-clause-may : goal.ask-requires-clause-may
ask-requires-clause-may c =
    let may = subst (λ v. MayAsk v c.args.by c.args.broker c.args.namespace c.args.ask) (sym c.self.view_is) c.requires.may in
    record { inst = may.inst; log = may.log; agrees = may.agrees.jobs; new = may.new }

pub invariant_of-self-2 : goal.invariant_of-self-2
invariant_of-self-2 c = λ _.
    let v = value_of c.self.inside in
    let fit : IsFit v = c.self.invariant (ap (λ v. v.spent) c.self.view_is ∙ c.requires.ready) in
    jobs-fit v fit c.ask.new.self c.in_ok-ask.ensures.ready c.in_ok-ask.ensures.counts.size

pub returns-clause-agrees : goal.returns-clause-agrees
returns-clause-agrees c = λ inst log a₀ new₀ floors seen.
    let a = subst (λ v. AgreesServices v inst log) (sym c.self.view_is) a₀ in
    let new = subst (λ v. IsNewAsk v.jobs inst log c.args.by c.args.broker c.args.namespace c.args.ask) (sym c.self.view_is) new₀ in
    onward (value_of c.self.inside) c.ask.new.self inst log (log ++ Served (Asked c.args.by floors) ∷ []) a (c.in_ok-ask.ensures.agrees inst log a.jobs new floors seen)
