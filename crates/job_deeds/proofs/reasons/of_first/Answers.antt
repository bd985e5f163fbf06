use Rattle.std.proofs.Common.{sym, subst}
use Rattle.graph_match.specs.Answers.{Answers, AreFirstFit, IsBlocked}
use Rattle.job_rules.specs.Fits.{NeverFits}
use Rattle.manager_rules.specs.declared.why.Why.TheVariants.{Busy}
use Rattle.manager_rules.specs.Whys.{IsSaidOf}
use Rattle.job_deeds.proofs.Whys.{said_busy, said_never, said_ready}
use Rattle.job_deeds.proofs.reasons.of_first.Goals as goal

pub returns-in-Units : goal.returns-in-Units
returns-in-Units c = λ s seen first.
    let graph = c.args.desk.now.graph.now in
    let fit = subst (λ j. AreFirstFit graph j.spec c.args.desk.now.second c.in-Units.field-0) c.row.view_is (subst (Answers graph c.row.inside.spec c.args.desk.now.second) c.in-Units.is c.in_ok-fit.ensures) in
    said_ready c.args.desk.now s seen c.args.row.now c.in-Units.field-0 first fit

pub returns-in-Busy : goal.returns-in-Busy
returns-in-Busy c = λ s seen first.
    let graph = c.args.desk.now.graph.now in
    let blocked = subst (λ j. IsBlocked graph j.spec c.in-Busy.ids) c.row.view_is (subst (Answers graph c.row.inside.spec c.args.desk.now.second) c.in-Busy.is c.in_ok-fit.ensures) in
    said_busy c.args.desk.now s seen c.args.row.now c.in-Busy.ids first blocked

pub returns : goal.returns
returns c = λ s seen first.
    let graph = c.args.desk.now.graph.now in
    let never = subst (λ j. NeverFits j.spec graph.grant) c.row.view_is (subst (Answers graph c.row.inside.spec c.args.desk.now.second) c.in-Never.is c.in_ok-fit.ensures) in
    subst (λ ids. IsSaidOf s c.args.row.now (Busy ids)) (sym c.new.ensures) (said_never c.args.desk.now s seen c.args.row.now c.requires.spec c.requires.grant first never)
