use Rattle.std.proofs.Common.{ap, subst}
use Rattle.job_commands.specs.Children.{AreEnded}
use Rattle.job_commands.proofs.Steps.{gone_as, gone_is}
use Rattle.job_commands.proofs.commands.Commands.gone.Goals as goal

pub returns-clause-agrees : goal.returns-clause-agrees
returns-clause-agrees c = λ inst log h.
    gone_as c.args.self.now _ inst log c.args.job c.args.shut
    (ap (λ w. w.labels) c.self.view_is) (ap (λ w. w.rows) c.self.view_is) (ap (λ w. w.issued) c.self.view_is) (ap (λ w. w.marks) c.self.view_is)
    (subst (λ l. AreEnded c.args.job c.args.shut l c.end.new.children.items) (ap (λ w. w.children) c.self.view_is) c.end.ensures) c.requires.had h

pub returns-clause-ends : goal.returns-clause-ends
returns-clause-ends c =
    gone_is c.args.self.now _ c.args.job c.args.shut
    (ap (λ w. w.labels) c.self.view_is) (ap (λ w. w.rows) c.self.view_is) (ap (λ w. w.issued) c.self.view_is) (ap (λ w. w.marks) c.self.view_is)
    (subst (λ l. AreEnded c.args.job c.args.shut l c.end.new.children.items) (ap (λ w. w.children) c.self.view_is) c.end.ensures)
