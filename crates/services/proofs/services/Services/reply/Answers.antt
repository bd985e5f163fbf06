use Rattle.std.proofs.Common.{◌∙◌, ◌++◌, ◌∷◌, [], ap, sym, subst}
use Rattle.job_service.specs.instance_rules.Log.{Replied}
use Rattle.services.specs.Agrees.{AgreesServices}
use Rattle.services.specs.View.{IsFit, value_of}
use Rattle.services.proofs.Turning.{jobs-fit, onward}
use Rattle.services.proofs.services.Services.reply.Goals as goal

pub invariant_of-self-2 : goal.invariant_of-self-2
invariant_of-self-2 c = λ _.
    let v = value_of c.self.inside in
    let fit : IsFit v = c.self.invariant (ap (λ v. v.spent) c.self.view_is ∙ c.requires.ready) in
    let e = c.in_ok-told.ensures in
    jobs-fit v fit c.reply.new.self e.ready e.counts.size

pub returns-clause-answers : goal.returns-clause-answers
returns-clause-answers c = λ inst log a₀.
    let a = subst (λ v. AgreesServices v inst log) (sym c.self.view_is) a₀ in
    let r = c.in_ok-told.ensures.answers inst log a.jobs in
    let number = c.in_ok-told.told.number in
    record {
      reply = r.reply;
      hands = r.hands;
      legal = r.legal;
      agrees = onward (value_of c.self.inside) c.reply.new.self inst log (log ++ Replied c.args.by r.reply number ∷ []) a r.agrees;
    }
