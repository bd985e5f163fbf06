use Rattle.std.proofs.Common.{◌∙◌, sym, ap, subst}
use Rattle.job_commands.proofs.Submitting.{of_ok}
use Rattle.job_replies.specs.Told.{MayTell}
use Rattle.job_service.specs.Agrees.{AgreesJobs}
use Rattle.job_service.specs.View.{value_of}
use Rattle.job_service.specs.Watching.{TellsWatched}
use Rattle.job_service.proofs.Calls.{at_some, rank_within, row_known, stands}
use Rattle.job_service.proofs.Watching.{told_watched}
use Rattle.job_service.proofs.service.JobService.told_open.Goals as goal

pub tell-requires-clause-within : goal.tell-requires-clause-within
tell-requires-clause-within c =
    let i = c.self.invariant (ap (λ v. v.spent) c.self.view_is ∙ c.requires.ready) in
    rank_within (value_of c.self.inside) i.fit.agreed.inst i.fit.agreed.log i.fit.agreed.agrees c.in-Some.row.now (row_known c.self.inside.commands c.args.by c.row_of.result c.in-Some.row c.row_of.ensures c.in-Some.is).0

pub returns-in-Some-2 : goal.returns-in-Some-2
returns-in-Some-2 c = λ inst log a.
    let v = value_of c.self.inside in
    let b = subst (λ w. AgreesJobs w inst log) (sym c.self.view_is) a in
    let row = c.in-Some.row.now in
    let known = row_known c.self.inside.commands c.args.by c.row_of.result c.in-Some.row c.row_of.ensures c.in-Some.is in
    let told = c.in-Some-2.told in
    let tells = at_some (TellsWatched c.as_slice.result.now row.by) c.in_ok-told.field-0 told c.in-Some-2.is c.in_ok-told.ensures.some in
    subst (λ x. MayTell inst log x told.reply told.number) known.1
    (told_watched v inst log b row known.0 told (subst (λ l. TellsWatched l row.by told) c.as_slice.ensures.value tells))

pub returns-in-None : goal.returns-in-None
returns-in-None c =
    let known = row_known c.self.inside.commands c.args.by c.row_of.result c.in-Some.row c.row_of.ensures c.in-Some.is in
    of_ok c.tell.result (λ told h. λ inst log a.
    let b = subst (λ v. AgreesJobs v inst log) (sym c.self.view_is) a in
    subst (λ x. MayTell inst log x told.reply told.number) known.1 (h inst log (stands (value_of c.self.inside) inst log b) known.0)) c.tell.ensures.legal
