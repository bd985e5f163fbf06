use Rattle.std.proofs.Common.{◌≡◌, ℕ, List, Some, cond, ap, subst, ◌∙◌, bytes_eq}
use Rattle.job_commands.specs.Rows.{AreCarried, job_at}
use Rattle.job_commands.proofs.Landings.{submitted_agrees}
use Rattle.instance_rules.proofs.Sole.{sole}
use Rattle.job_commands.proofs.Submitting.{at_some, label_is}
use Rattle.job_commands.proofs.commands.Commands.submitted.Goals as goal

pub returns-clause-agrees : goal.returns-clause-agrees
returns-clause-agrees c = λ inst log group authors groups label urgency needs text h unique pending asks made carries begins.
    let v = c.args.self.now in
    let found : c.in_ok-label.label ≡ Some label =
    c.in_ok-label.ensures
    ∙ label_is v inst log h c.args.by label urgency needs text asks made.row made.known made.named in
    let put : (other : List ℕ) → job_at other c.name.new.self ≡ cond (bytes_eq other label) (Some c.args.id) (job_at other c.self.inside.labels) =
    at_some (λ l. (other : List ℕ) → job_at other c.name.new.self ≡ cond (bytes_eq other l) (Some c.args.id) (job_at other c.self.inside.labels)) c.in_ok-label.label label found c.in_ok-name.ensures.put in
    submitted_agrees inst c.args.by group authors groups c.args.number carries log v _
    (subst (λ l. AreCarried c.args.by c.args.number l c.carry.new.rows.items) (ap (λ w. w.rows) c.self.view_is) c.carry.ensures)
    (ap (λ w. w.issued) c.self.view_is) (ap (λ w. w.marks) c.self.view_is) (ap (λ w. w.children) c.self.view_is) h label urgency needs text asks c.args.id begins
    (λ other b. sole group c.args.id other c.ranges.id.fits begins b)
    (λ other. put other ∙ ap (λ w. cond (bytes_eq other label) (Some c.args.id) (job_at other w.labels)) c.self.view_is)
    unique pending.undecided made.row made.known made.named made.waits made.made
