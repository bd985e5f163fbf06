use Rattle.std.proofs.Common.{◌∙◌, ◌++◌, [], ◌∷◌, false, refl, sym, ap, subst}
use Rattle.kvs_rules.specs.Log.{Asked}
use Rattle.instance_rules.specs.Log.{Served, service_of}
use Rattle.job_service.specs.Agrees.{AgreesJobs, IsNewAsk, MayAsk}
use Rattle.job_service.specs.View.{value_of}
use Rattle.job_service.proofs.Calls.{asked_agrees}
use Rattle.job_service.proofs.Held.{held_still}
use Rattle.job_service.proofs.service.JobService.ask.Goals as goal

pub invariant_of-self-2 : goal.invariant_of-self-2
invariant_of-self-2 c = λ _.
    let held = c.self.invariant (ap (λ v. v.spent) c.self.view_is ∙ c.requires.ready) in
    let m = subst (λ v. MayAsk v c.args.by c.args.broker c.args.namespace c.args.ask) (sym c.self.view_is) c.requires.may in
    let keeps = c.in_ok-ask.ensures.keeps in
    held_still c.self.inside held false c.ask.new.self c.in_ok-ask.ensures.ready keeps.size keeps.book keeps.posted
    (record {
      inst = m.inst;
      log = m.log ++ Served (Asked c.args.by (λ _. c.args.floor)) ∷ [];
      agrees = asked_agrees (value_of c.self.inside) m.inst m.log m.agrees false c.ask.new.self c.args.by c.args.broker (λ _. c.args.floor) c.args.namespace c.args.ask c.in_ok-ask.ensures.keeps m.new
          (c.in_ok-ask.ensures.agrees m.inst.service (service_of m.log) m.agrees.core m.new.asks (λ _. c.args.floor) refl m.new.new m.new.rested);
    })

pub returns-clause-agrees : goal.returns-clause-agrees
returns-clause-agrees c = λ inst log a new₀ floors seen.
    let new = subst (λ v. IsNewAsk v inst log c.args.by c.args.broker c.args.namespace c.args.ask) (sym c.self.view_is) new₀ in
    let b = subst (λ v. AgreesJobs v inst log) (sym c.self.view_is) a in
    asked_agrees (value_of c.self.inside) inst log b false c.ask.new.self c.args.by c.args.broker floors c.args.namespace c.args.ask c.in_ok-ask.ensures.keeps new
    (c.in_ok-ask.ensures.agrees inst.service (service_of log) b.core new.asks floors seen new.new new.rested)
