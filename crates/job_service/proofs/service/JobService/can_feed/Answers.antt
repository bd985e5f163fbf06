use Rattle.std.proofs.Common.{◌∙◌, ap}
use Rattle.job_service.specs.View.{value_of}
use Rattle.job_service.proofs.Calls.{rank_within, row_known}
use Rattle.job_service.proofs.service.JobService.can_feed.Goals as goal

pub has_news-requires-clause-within : goal.has_news-requires-clause-within
has_news-requires-clause-within c =
    let i = c.self.invariant (ap (λ v. v.spent) c.self.view_is ∙ c.requires) in
    rank_within (value_of c.self.inside) i.fit.agreed.inst i.fit.agreed.log i.fit.agreed.agrees c.in-Some.row.now (row_known c.self.inside.commands c.args.by c.row_of.result c.in-Some.row c.row_of.ensures c.in-Some.is).0
