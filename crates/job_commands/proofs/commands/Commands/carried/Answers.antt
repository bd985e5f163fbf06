use Rattle.std.proofs.Common.{ap, subst}
use Rattle.job_commands.specs.Rows.{AreCarried}
use Rattle.job_commands.proofs.Landings.{event_agrees}
use Rattle.job_commands.proofs.commands.Commands.carried.Goals as goal

pub returns-clause-agrees : goal.returns-clause-agrees
returns-clause-agrees c = λ inst log group authors groups ask h asks event carries.
    event_agrees inst c.args.by group authors groups c.args.number carries log c.args.self.now _
    (ap (λ v. v.labels) c.self.view_is)
    (subst (λ l. AreCarried c.args.by c.args.number l c.carry.new.rows.items) (ap (λ v. v.rows) c.self.view_is) c.carry.ensures)
    (ap (λ v. v.issued) c.self.view_is) (ap (λ v. v.marks) c.self.view_is) (ap (λ v. v.children) c.self.view_is) h ask asks event
