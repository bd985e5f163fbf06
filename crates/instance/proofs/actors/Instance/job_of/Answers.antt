use Rattle.services.specs.answers.Jobs.{instance_of, log_in}
use Rattle.instance.specs.View.{value_of}
use Rattle.instance.proofs.Bearing.{jobs_agree}
use Rattle.instance.proofs.actors.Instance.job_of.Goals as goal

pub returns : goal.returns
returns c = λ set own agrees.
    c.job_of.ensures (instance_of set) (log_in set.work own) (jobs_agree (value_of c.self.inside) c.args.self.now _ set own c.self.view_is c.jobs.ensures.value agrees)
