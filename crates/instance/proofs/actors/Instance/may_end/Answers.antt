use Rattle.std.proofs.Common.{subst}
use Rattle.std.specs.Prelude.{IsTrue}
use Rattle.services.specs.answers.Jobs.{instance_of, log_in}
use Rattle.services.specs.manager_rules.Times.{IsEndDue}
use Rattle.services.specs.job_service.Children as jobs
use Rattle.instance.specs.Family.{OfOwn}
use Rattle.instance.specs.View.{value_of}
use Rattle.instance.proofs.Bearing.{jobs_agree, jobs_value}
use Rattle.instance.proofs.actors.Instance.may_end.Goals as goal

pub returns-clause-due : goal.returns-clause-due
returns-clause-due c = λ set own agrees.
    subst (λ j. (IsTrue (jobs.is_end_due j c.args.job c.args.shut) → OfOwn set own (λ desk. IsEndDue desk.scene (IsTrue c.args.shut) c.args.job)) × (OfOwn set own (λ desk. IsEndDue desk.scene (IsTrue c.args.shut) c.args.job) → IsTrue (jobs.is_end_due j c.args.job c.args.shut)))
    (jobs_value (value_of c.self.inside) c.args.self.now _ c.self.view_is c.jobs.ensures.value)
    (c.may_end.ensures.due (instance_of set) (log_in set.work own) (jobs_agree (value_of c.self.inside) c.args.self.now _ set own c.self.view_is c.jobs.ensures.value agrees))
