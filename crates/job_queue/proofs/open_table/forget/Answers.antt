use Rattle.std.proofs.Common.{◌∙◌}
use Rattle.job_queue.proofs.open_table.forget.Goals as goal

pub returns : goal.returns
returns c = λ other. c.drop_empty.ensures other ∙ c.drop_job_on.ensures other
