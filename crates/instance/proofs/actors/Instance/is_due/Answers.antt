use Rattle.services.specs.answers.Jobs.{instance_of, log_in}
use Rattle.instance.specs.View.{value_of}
use Rattle.instance.proofs.Bearing.{jobs_agree}
use Rattle.instance.proofs.actors.Instance.is_due.Goals as goal

pub returns-clause-idle : goal.returns-clause-idle
returns-clause-idle c = λ set own agrees free.
    c.is_due.ensures.idle (instance_of set) (log_in set.work own) (jobs_agree (value_of c.self.inside) c.args.self.now _ set own c.self.view_is c.jobs.ensures.value agrees) free
