use Rattle.std.proofs.Common.{◌∙◌}
use Rattle.job_queue.proofs.open_table.keep_undecided.Goals as goal

pub returns : goal.returns
returns c = λ other. c.drop_empty.ensures other ∙ c.drop_decided_on.ensures other
