use Rattle.std.proofs.Common.{◌≡◌, not, false, true, sym, subst, arith, rules, slice_index_or, Some}
use Rattle.std.specs.Prelude.{find}
use Rattle.job_spec.specs.declared.spec.Scheme.TheVariants.{After}
use Rattle.manager_rules.specs.Dependencies.{is_added}
use Rattle.job_deeds.proofs.Finding.{find_at, none_at}
use Rattle.job_deeds.proofs.dependencies.first_new.Goals as goal

pub returns-then-not-has : goal.returns-then-not-has
returns-then-not-has c =
    let items : c.as_slice-need-items.result.now ≡ c.args.row.now.needs = search rules in
    let new : not (is_added c.args.row.now (slice_index_or c.as_slice-need-items.result.now c.loop-need.need-index (record { scheme = After; on = 0 }))) ≡ true = search rules in
    sym (subst (λ ns. find (λ need. not (is_added c.args.row.now need)) ns ≡ Some (slice_index_or c.as_slice-need-items.result.now c.loop-need.need-index (record { scheme = After; on = 0 }))) items
    (find_at (λ need. not (is_added c.args.row.now need)) c.as_slice-need-items.result.now c.loop-need.need-index (record { scheme = After; on = 0 }) c.loop-need.invariant (omega arith) new))

pub loop-need-preserved : goal.loop-need-preserved
loop-need-preserved c =
    let old : not (is_added c.args.row.now (slice_index_or c.as_slice-need-items.result.now c.loop-need.need-index (record { scheme = After; on = 0 }))) ≡ false = search rules in
    none_at (λ need. not (is_added c.args.row.now need)) c.as_slice-need-items.result.now c.loop-need.need-index (record { scheme = After; on = 0 }) c.loop-need.invariant (omega arith) old
