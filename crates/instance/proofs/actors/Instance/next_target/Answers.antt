use Rattle.std.proofs.Common.{◌<◌, Contains, subst}
use Rattle.services.specs.answers.Jobs.{instance_of, log_in}
use Rattle.services.specs.instance_rules.Family.{HasTarget}
use Rattle.services.specs.job_service.Times.{targets_left}
use Rattle.instance.specs.View.{value_of}
use Rattle.instance.proofs.Bearing.{jobs_agree, jobs_value}
use Rattle.instance.proofs.actors.Instance.next_target.Goals as goal

pub returns-clause-targets : goal.returns-clause-targets
returns-clause-targets c = λ set own l target agrees lives.
    subst (λ j. (HasTarget l target × (j.second < target) → Contains (targets_left j) target) × (Contains (targets_left j) target → HasTarget l target × (j.second < target)))
    (jobs_value (value_of c.self.inside) c.args.self.now _ c.self.view_is c.jobs.ensures.value)
    (c.next_target.ensures.targets (instance_of set) (log_in set.work own) l target (jobs_agree (value_of c.self.inside) c.args.self.now _ set own c.self.view_is c.jobs.ensures.value agrees) lives)
