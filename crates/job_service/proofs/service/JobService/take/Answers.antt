use Rattle.std.proofs.Common.{◌∙◌, ◌++◌, [], ◌∷◌, sym, ap, subst}
use Rattle.kvs_rules.specs.Log.{Happened}
use Rattle.kvs_rules.specs.declared.events.KvsEvent.TheVariants as event
use Rattle.instance_rules.specs.Log.{Served, service_of}
use Rattle.job_service.specs.Agrees.{AgreesJobs}
use Rattle.job_service.specs.View.{value_of}
use Rattle.job_service.proofs.Calls.{taken_agrees}
use Rattle.job_service.proofs.Held.{held_still}
use Rattle.job_service.proofs.service.JobService.take.Goals as goal

pub invariant_of-self : goal.invariant_of-self
invariant_of-self c = λ _.
    let held = c.self.invariant (ap (λ v. v.spent) c.self.view_is ∙ c.requires.ready) in
    let g = held.fit.agreed in
    let core = c.take.ensures in
    held_still c.self.inside held c.self.inside.spent c.take.new.self core.ready core.keeps.size core.keeps.book core.keeps.posted
    (record {
      inst = g.inst;
      log = g.log ++ Served (Happened (event.Answered c.args.by c.take.result.number c.take.result.answer)) ∷ [];
      agrees = taken_agrees (value_of c.self.inside) g.inst g.log g.agrees c.self.inside.spent c.take.new.self c.args.by c.take.result.number c.take.result.answer core.keeps
          (core.legal g.inst.service (service_of g.log) g.agrees.core) (core.agrees g.inst.service (service_of g.log) g.agrees.core);
    })

pub returns-clause-agrees : goal.returns-clause-agrees
returns-clause-agrees c = λ inst log a.
    let b = subst (λ v. AgreesJobs v inst log) (sym c.self.view_is) a in
    let core = c.take.ensures in
    taken_agrees (value_of c.self.inside) inst log b c.self.inside.spent c.take.new.self c.args.by c.take.result.number c.take.result.answer core.keeps
    (core.legal inst.service (service_of log) b.core) (core.agrees inst.service (service_of log) b.core)
