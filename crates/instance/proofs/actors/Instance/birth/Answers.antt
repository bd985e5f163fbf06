use Rattle.std.proofs.lemmas.Option.{IfSome_then}
use Rattle.services.specs.answers.Jobs.{instance_of, log_in}
use Rattle.instance.specs.View.{value_of}
use Rattle.instance.proofs.Bearing.{jobs_agree, none_then}
use Rattle.instance.proofs.actors.Instance.birth.Goals as goal

pub returns-clause-some : goal.returns-clause-some
returns-clause-some c = IfSome_then c.birth.result c.birth.ensures.some (λ job first set own agrees.
    first (instance_of set) (log_in set.work own) (jobs_agree (value_of c.self.inside) c.args.self.now _ set own c.self.view_is c.jobs.ensures.value agrees))

pub returns-clause-none : goal.returns-clause-none
returns-clause-none c = none_then c.birth.result c.birth.ensures.none (λ none set own agrees.
    none (instance_of set) (log_in set.work own) (jobs_agree (value_of c.self.inside) c.args.self.now _ set own c.self.view_is c.jobs.ensures.value agrees))
