use Rattle.std.proofs.Common.{refl, sym, subst}
use Rattle.answers.specs.declared.chronicle.Reply.TheVariants as reply
use Rattle.job_book.specs.Contract.{Explains}
use Rattle.job_replies.specs.Jobs.{IsSaidOfJob}
use Rattle.job_replies.proofs.telling.of_job.Goals as goal

pub returns-in_ok-text_of-in-Info : goal.returns-in_ok-text_of-in-Info
returns-in_ok-text_of-in-Info c =
    let text = c.in_ok-text_of-in-Info.field-0 in
    subst (λ asks. IsSaidOfJob c.args.manager.now c.args.now asks c.args.id c.args.job.now (reply.Info text)) (sym c.in-Info.is) (text, refl, c.in_ok-text_of-in-Info.ensures)

pub returns-in_ok-why-in-Why : goal.returns-in_ok-why-in-Why
returns-in_ok-why-in-Why c =
    let why = c.in_ok-why-in-Why.field-0 in
    subst (λ asks. IsSaidOfJob c.args.manager.now c.args.now asks c.args.id c.args.job.now c.reply_of_why.result) (sym c.in-Why.is)
    (why, c.reply_of_why.ensures, subst (λ book. Explains book c.args.now c.args.id why) c.book.ensures c.in_ok-why-in-Why.ensures)
