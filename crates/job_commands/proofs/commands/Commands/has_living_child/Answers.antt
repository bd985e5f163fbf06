use Rattle.std.proofs.Common.{ap, sym, ◌∙◌}
use Rattle.std.specs.List.{list_any}
use Rattle.job_commands.specs.Children.{is_living_of}
use Rattle.job_commands.proofs.Children.{living_any}
use Rattle.job_commands.proofs.Desks.{living_alone}
use Rattle.job_commands.proofs.commands.Commands.has_living_child.Goals as goal

pub returns-clause-asked : goal.returns-clause-asked
returns-clause-asked c =
    let v = c.args.self.now in
    c.is_living.ensures ∙ ap (list_any (is_living_of c.args.job)) (c.as_slice.ensures.value ∙ ap (λ w. w.children) c.self.view_is)
    ∙ living_any v.children c.args.job ∙ sym (living_alone v c.args.job)
