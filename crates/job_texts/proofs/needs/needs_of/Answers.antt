use Rattle.std.proofs.Common.{[], ◌++◌, ap₂, sym, ◌∙◌}
use Rattle.manager_rules.specs.Jobs.{distinct}
use Rattle.job_texts.proofs.needs.needs_of.Goals as goal

pub returns : goal.returns
returns c = λ all are.
    let one = c.in_ok-add.ensures [] c.new-needs.ensures in
    let two = c.in_ok-add-2.ensures c.as_slice.result.now one in
    two ∙ ap₂ (λ a b. distinct (a ++ b)) c.as_slice.ensures (c.as_slice-2.ensures ∙ c.in_ok-listed.ensures are.listed are.small are.described) ∙ sym are.all
