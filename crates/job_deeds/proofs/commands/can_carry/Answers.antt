use Rattle.std.proofs.Common.{◌≡◌, ap, sym, subst, ◌∙◌, rules}
use Rattle.std.specs.Prelude.{IsTrue}
use Rattle.job_states.specs.declared.job.Change.TheVariants as change
use Rattle.manager_rules.specs.Due.{may_stand}
use Rattle.job_deeds.proofs.commands.can_carry.Goals as goal

pub returns-then-job-row-3 : goal.returns-then-job-row-3
returns-then-job-row-3 c =
    let same = c.can_urge.ensures ∙ ap (λ j. may_stand (change.Urge c.in-Urgency.urgency) j.job) c.row.view_is in
    let named : c.in-Urgency.job ≡ c.args.row.now.id = search rules in
    rw c.in-Urgency.is (λ t. (named, subst IsTrue same t), λ m. subst IsTrue (sym same) m.1)
