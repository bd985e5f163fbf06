use Rattle.std.proofs.Common.{◌∙◌, ◌++◌, ◌∷◌, [], ap, refl, sym, subst}
use Rattle.job_service.specs.kvs_rules.Log.{Happened}
use Rattle.job_service.specs.kvs_rules.declared.events.KvsEvent.TheVariants as event
use Rattle.job_service.specs.instance_rules.Log.{Served}
use Rattle.services.specs.Asks.{Keeps, Tells}
use Rattle.services.specs.View.{IsFit, value_of}
use Rattle.services.proofs.Turning.{jobs-fit, onward, with_jobs}
use Rattle.services.proofs.services.Services.take.Goals as goal

pub invariant_of-self : goal.invariant_of-self
invariant_of-self c = λ live.
    let v = value_of c.self.inside in
    let fit : IsFit v = c.self.invariant (ap (λ v. v.spent) c.self.view_is ∙ c.requires.ready) in
    subst (λ b. IsFit (record (with_jobs v c.take.new.self) { spent = b })) (sym live)
    (jobs-fit v fit c.take.new.self c.take.ensures.ready c.take.ensures.counts.size)

pub returns-clause-keeps : goal.returns-clause-keeps
returns-clause-keeps c =
    let v = value_of c.self.inside in
    subst (λ w. Keeps w (record (with_jobs v c.take.new.self) { spent = c.self.inside.spent })) c.self.view_is (record { size = refl; counts = c.take.ensures.counts })

pub returns-clause-tells : goal.returns-clause-tells
returns-clause-tells c =
    let v = value_of c.self.inside in
    let held = c.take.result in
    subst (λ w. Tells w (record (with_jobs v c.take.new.self) { spent = c.self.inside.spent }) c.args.by held.number held.answer) c.self.view_is
    (subst (λ b. Tells v (record (with_jobs v c.take.new.self) { spent = b }) c.args.by held.number held.answer) (sym (ap (λ v. v.spent) c.self.view_is ∙ c.requires.ready)) (record {
      legal = λ inst log a. c.take.ensures.legal inst log a.jobs;
      agrees = λ inst log a. onward v c.take.new.self inst log (log ++ Served (Happened (event.Answered c.args.by held.number held.answer)) ∷ []) a (c.take.ensures.agrees inst log a.jobs);
    }))
