use Rattle.std.proofs.lemmas.Option.{IfSome_then}
use Rattle.services.specs.answers.Jobs.{instance_of, log_in}
use Rattle.instance.specs.View.{value_of}
use Rattle.instance.proofs.Bearing.{jobs_agree}
use Rattle.instance.proofs.actors.Instance.label_of.Goals as goal

pub returns-clause-names : goal.returns-clause-names
returns-clause-names c = IfSome_then c.label_of.result c.label_of.ensures.names (λ label named set own agrees.
    named (instance_of set) (log_in set.work own) (jobs_agree (value_of c.self.inside) c.args.self.now _ set own c.self.view_is c.jobs.ensures.value agrees))
