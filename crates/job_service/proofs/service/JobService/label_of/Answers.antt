use Rattle.std.proofs.Common.{◌∙◌, sym, ap, subst}
use Rattle.std.proofs.lemmas.Option.{IfSome_then}
use Rattle.job_service.specs.Agrees.{AgreesJobs}
use Rattle.job_service.specs.Children.{IsBearing}
use Rattle.job_service.proofs.Bearing.{bearing_named, some_unless}
use Rattle.job_service.proofs.service.JobService.label_of.Goals as goal

pub returns-clause-bears : goal.returns-clause-bears
returns-clause-bears c = λ is.
    let i = (c.self.invariant (ap (λ v. v.spent) c.self.view_is ∙ c.requires)).fit in
    let born = subst (IsBearing c.self.inside.commands c.self.inside.manager.book) (ap (λ v. v.bearing) c.self.view_is ∙ is) i.bearing in
    some_unless c.label_of.result c.label_of.ensures.unnamed
    (bearing_named c.self.inside.commands c.self.inside.manager.book c.args.job born i.agreed.agrees.labelled)

pub returns-clause-names : goal.returns-clause-names
returns-clause-names c = IfSome_then c.label_of.result c.label_of.ensures.names (λ label named inst log a.
    named inst log (subst (λ v. AgreesJobs v inst log) (sym c.self.view_is) a).commands)
