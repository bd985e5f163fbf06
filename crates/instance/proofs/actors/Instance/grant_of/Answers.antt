use Rattle.std.proofs.lemmas.Option.{IfSome_then}
use Rattle.std.proofs.lemmas.Result.{IfOk-weaker}
use Rattle.services.specs.answers.Jobs.{instance_of, log_in}
use Rattle.instance.specs.View.{value_of}
use Rattle.instance.proofs.Bearing.{jobs_agree}
use Rattle.instance.proofs.actors.Instance.grant_of.Goals as goal

pub returns-clause-held : goal.returns-clause-held
returns-clause-held c = IfOk-weaker c.grant_of.result _ _ (λ grant held. IfSome_then grant held (λ r granted set own agrees.
    granted (instance_of set) (log_in set.work own) (jobs_agree (value_of c.self.inside) c.args.self.now _ set own c.self.view_is c.jobs.ensures.value agrees)))
    c.grant_of.ensures.held
