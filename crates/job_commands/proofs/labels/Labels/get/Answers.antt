use Rattle.std.proofs.Common.{sym, ap, ◌∙◌}
use Rattle.job_commands.specs.Rows.{job_at}
use Rattle.job_commands.proofs.Finding.{lookup_shown}
use Rattle.job_commands.proofs.labels.Labels.get.Goals as goal

pub returns : goal.returns
returns c = c.copied.ensures ∙ c.get.ensures.value ∙ sym (lookup_shown c.args.label.now c.self.inside.jobs.entries) ∙ ap (job_at c.args.label.now) c.self.view_is
