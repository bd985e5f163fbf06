use Rattle.std.proofs.Common.{◌≡◌, ◌++◌, ◌∷◌, [], ap, ◌∙◌, rules}
use Rattle.job_commands.specs.Children.{born_child}
use Rattle.job_commands.proofs.Steps.{born_as}
use Rattle.job_commands.proofs.commands.Commands.born.Goals as goal

pub returns-clause-agrees : goal.returns-clause-agrees
returns-clause-agrees c = λ inst log h.
    let pushed : c.push.new.self.items ≡ c.self.inside.children.items ++ born_child c.args.job ∷ [] = search rules in
    born_as c.args.self.now _ inst log c.args.job
    (ap (λ w. w.labels) c.self.view_is) (ap (λ w. w.rows) c.self.view_is) (ap (λ w. w.issued) c.self.view_is) (ap (λ w. w.marks) c.self.view_is)
    (pushed ∙ ap (λ w. w.children ++ born_child c.args.job ∷ []) c.self.view_is) c.requires.first h
