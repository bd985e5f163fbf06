use Rattle.std.proofs.Common.{◌≡◌, None, Some, refl, sym, ap, ◌∙◌}
use Rattle.job_deeds.proofs.Passers.{lease_next, lease_none}
use Rattle.job_deeds.proofs.passing.leases.Goals.{in-Some+in_ok-copy+in_ok-push, in_default}
use Rattle.job_deeds.proofs.passing.leases.Goals as goal

pub loop-row-preserved : goal.loop-row-preserved
loop-row-preserved c = elim c.match-row.branch [
  | in-Some+in_ok-copy+in_ok-push w ↦
      ap (λ v. v.items) w.live-is ∙ w.in_ok-push.ensures.items
      ∙ lease_next c.args.rows.now c.loop-row.row-index c.row-item.result c.loop-row.live.items _ w.in-Some.r c.loop-row-test.true c.row-item.is c.loop-row.invariant (ap (λ j. j.r) (sym c.row.view_is) ∙ w.in-Some.is) (ap (λ j. j.id) c.row.view_is) w.in_ok-copy.ensures refl
  | in_default w ↦
      ap (λ v. v.items) w.live-is
      ∙ lease_none c.args.rows.now c.loop-row.row-index c.row-item.result c.loop-row.live.items c.loop-row-test.true c.row-item.is c.loop-row.invariant (ap (λ j. j.r) (sym c.row.view_is) ∙ w.in_default.is)
]
