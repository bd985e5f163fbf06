use Rattle.std.proofs.Common.{ap, sym, ◌∙◌}
use Rattle.std.specs.List.{list_all}
use Rattle.job_commands.specs.Desks.{needs_of}
use Rattle.job_submissions.specs.Faults.{is_on_job}
use Rattle.job_submissions.proofs.Known.{all_known, lacks_label, lacks_need, verdict}
use Rattle.job_submissions.proofs.faults.lacks_job.Goals as goal

pub returns-then-not-are_known : goal.returns-then-not-are_known
returns-then-not-are_known c =
    lacks_need c.args.commands.now.labels c.args.book.now.jobs c.args.spec.now.depends c.args.named.now
    (sym (c.are_known.ensures ∙ ap (list_all (is_on_job c.args.book.now.jobs)) c.as_slice.ensures) ∙ c.if-not-are_known.true)

pub returns-in-Some : goal.returns-in-Some
returns-in-Some c =
    verdict c.args.commands.now.labels c.args.book.now.jobs c.args.spec.now.depends c.args.named.now c.in-Some.needs c.are_known-in-Some.result
    (c.are_known-in-Some.ensures ∙ ap (list_all (is_on_job c.args.book.now.jobs)) c.as_slice-in-Some.ensures)
    (all_known c.args.book.now.jobs c.args.spec.now.depends
    (sym (c.are_known.ensures ∙ ap (list_all (is_on_job c.args.book.now.jobs)) c.as_slice.ensures) ∙ c.if-not-are_known.false))
    (sym (c.in_ok-needs.ensures ∙ ap (needs_of c.args.commands.now.labels) c.as_slice-2.ensures) ∙ c.in-Some.is)

pub returns-in-None : goal.returns-in-None
returns-in-None c =
    lacks_label c.args.commands.now.labels c.args.book.now.jobs c.args.spec.now.depends c.args.named.now
    (sym (c.in_ok-needs.ensures ∙ ap (needs_of c.args.commands.now.labels) c.as_slice-2.ensures) ∙ c.in-None.is)
