use Rattle.std.proofs.Common.{◌≡◌, ◌<◌, ◌≤◌, true, Some, ap, ◌∙◌, sym, subst, arith, rules}
use Rattle.std.specs.Prelude.{IfSome, min, option_map}
use Rattle.job_deeds.specs.job_states.declared.job.State.TheVariants as state
use Rattle.job_deeds.specs.shells.Endings.{ending_of}
use Rattle.job_deeds.specs.shells.declared.ends.Ending.TheVariants as ending
use Rattle.job_book.proofs.Wakes.{running_sleeps}
use Rattle.job_book.proofs.waking.wake_of.Goals as goal

pub returns-then-job : goal.returns-then-job
returns-then-job c = λ j job spec start r.
    let runs : c.args.job.now.state ≡ state.Run = search rules in
    let started : c.args.job.now.started ≡ true = search rules in
    let least : c.min.result ≡ min c.command_wakes.result c.units_wake.result = c.min.ensures in
    running_sleeps j c.command_wakes.result c.units_wake.result (ap (λ x. x.state) job ∙ runs) (ap (λ x. x.started) job ∙ started)
    (λ second status e.
    let now : option_map (ending_of j.spec) c.args.start ≡ Some (ending.At second status) = subst (λ o. option_map (ending_of j.spec) o ≡ Some (ending.At second status)) start e in
    c.command_wakes.ensures second status (subst (λ s. option_map (ending_of s) c.args.start ≡ Some (ending.At second status)) spec now))
    (subst (λ o. IfSome o (λ u. 0 < u.expiration → c.units_wake.result ≤ u.expiration)) (sym r) c.units_wake.ensures)
    c.min.result (omega (arith, least)) (omega (arith, least))
