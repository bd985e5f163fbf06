use Rattle.std.proofs.Common.{ap, ◌∙◌}
use Rattle.std.specs.Prelude.{filter, not}
use Rattle.job_commands.specs.Rows.{is_of}
use Rattle.job_commands.proofs.Steps.{reply_agrees}
use Rattle.job_commands.proofs.commands.Commands.reply.Goals as goal

pub returns-clause-agrees : goal.returns-clause-agrees
returns-clause-agrees c = λ inst log reply number h.
    reply_agrees c.args.self.now _ inst log c.args.by reply number
    (ap (λ v. v.labels) c.self.view_is)
    (c.forget.ensures ∙ ap (λ v. filter (λ row. not (is_of c.args.by row)) v.rows) c.self.view_is)
    (ap (λ v. v.issued) c.self.view_is) (ap (λ v. v.marks) c.self.view_is) (ap (λ v. v.children) c.self.view_is) h
