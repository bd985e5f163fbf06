use Rattle.std.proofs.Common.{◌≡◌, ap, ◌∙◌}
use Rattle.std.specs.Prelude.{find}
use Rattle.std.specs.Option.{option_copied}
use Rattle.job_commands.specs.Agrees.{RowAgrees}
use Rattle.job_commands.specs.Rows.{is_of}
use Rattle.job_commands.proofs.Tables.{row_has, row_none, row_some}
use Rattle.job_commands.proofs.commands.Commands.row.Goals as goal

found : (c : goal.After-row_of) → option_copied c.row_of.result ≡ find (is_of c.args.by) c.args.self.now.rows
found c = c.row_of.ensures ∙ ap (find (is_of c.args.by)) (c.as_slice.ensures.value ∙ ap (λ v. v.rows) c.self.view_is)

pub returns-clause-some : goal.returns-clause-some
returns-clause-some c = row_some c.args.by c.args.self.now.rows c.row_of.result (found c)

pub returns-clause-none : goal.returns-clause-none
returns-clause-none c = row_none c.args.by c.args.self.now.rows c.row_of.result (found c)

pub returns-clause-agrees : goal.returns-clause-agrees
returns-clause-agrees c = λ inst log h. row_has c.args.by c.args.self.now.rows (RowAgrees inst log) h.rows c.row_of.result (found c)
