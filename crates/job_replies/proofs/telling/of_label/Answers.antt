use Rattle.std.proofs.Common.{◌≡◌, Some, subst}
use Rattle.std.proofs.lemmas.Result.{IfOk-weaker}
use Rattle.std.specs.Prelude.{option_map}
use Rattle.job_book.specs.Value.{BookValue}
use Rattle.job_deeds.specs.manager_rules.Dependencies.{job_at as stored_at}
use Rattle.job_commands.specs.Rows.{job_at}
use Rattle.job_replies.proofs.Saying.{said-of}
use Rattle.job_replies.proofs.telling.of_label.Goals as goal

pub returns : goal.returns
returns c = IfOk-weaker c.of_job.result _ _
    (λ given said. said-of c.args.commands.now.labels c.args.manager.now c.args.now c.args.ask.now c.args.label.now c.in-Some.id c.in-Some-job.job.now given (subst (λ label. Some c.in-Some.id ≡ job_at label c.args.commands.now.labels) c.as_slice.ensures c.in-Some.ensures.job) (subst (λ (book : BookValue). Some c.in-Some-job.job.now ≡ option_map (λ j. j.job) (stored_at book.jobs c.in-Some.id)) c.book.ensures c.in-Some-job.ensures) said)
    c.of_job.ensures
