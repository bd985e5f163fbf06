use Rattle.std.proofs.Common.{◌≡◌, ◌==◌, false, ap, ◌∙◌, rules}
use Rattle.job_deeds.proofs.priorities.priority.Goals as goal

pub returns-else-row-eq-EXPEDITED : goal.returns-else-row-eq-EXPEDITED
returns-else-row-eq-EXPEDITED g c = λ s says.
    let held : (c.args.row.now.job.urgency == 0) ≡ false = search rules in
    let sped : (c.args.row.now.job.urgency == 31) ≡ false = search rules in
    rw (held, sped) (says _ _ c.answer.ensures.said ∙ ap s.answer c.ask_about.ensures)
