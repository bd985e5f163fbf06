use Rattle.std.proofs.Common.{[], ap, ◌++◌, ◌∙◌}
use Rattle.workload_generator.specs.Texts.{actor_line}
use Rattle.workload_generator.proofs.Counted.{lines_more}
use Rattle.workload_generator.proofs.actors.Goals as goal

pub loop-number-preserved : goal.loop-number-preserved
loop-number-preserved c = c.in_ok-add_actor.ensures ∙ ap (λ text. text ++ actor_line c.loop-number.number) c.loop-number.invariant ∙ lines_more [] actor_line c.loop-number.number
