use Rattle.std.proofs.Common.{Contains, subst}
use Rattle.services.specs.answers.Jobs.{instance_of, log_in}
use Rattle.services.specs.instance_rules.Family.{OfLiving}
use Rattle.services.specs.job_book.Contract.{seconds_left}
use Rattle.services.specs.manager_rules.Times.{seconds_ahead}
use Rattle.instance.specs.View.{value_of}
use Rattle.instance.proofs.Bearing.{jobs_agree, jobs_value}
use Rattle.instance.proofs.actors.Instance.next_end.Goals as goal

pub returns-clause-ends : goal.returns-clause-ends
returns-clause-ends c = λ set own l second agrees lives.
    subst (λ j. (OfLiving l (λ desk. Contains (seconds_ahead desk.scene) second) → Contains (seconds_left j.second j.manager.book) second) × (Contains (seconds_left j.second j.manager.book) second → OfLiving l (λ desk. Contains (seconds_ahead desk.scene) second)))
    (jobs_value (value_of c.self.inside) c.args.self.now _ c.self.view_is c.jobs.ensures.value)
    (c.next_end.ensures.ends (instance_of set) (log_in set.work own) l second (jobs_agree (value_of c.self.inside) c.args.self.now _ set own c.self.view_is c.jobs.ensures.value agrees) lives)
