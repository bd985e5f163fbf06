use Rattle.std.proofs.Common.{ap, sym, ◌∙◌}
use Rattle.job_commands.specs.Rows.{job_at}
use Rattle.job_commands.proofs.commands.Commands.job_of.Goals as goal

pub returns-clause-named : goal.returns-clause-named
returns-clause-named c = λ inst log h id.
    let is = c.get.ensures ∙ ap (λ v. job_at c.args.label.now v.labels) c.self.view_is in
    (λ e. (h.labels c.args.label.now id).0 (sym is ∙ e), λ n. is ∙ (h.labels c.args.label.now id).1 n)
