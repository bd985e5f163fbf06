use Rattle.std.proofs.Common.{◌≡◌, ◌+◌, ◌-◌, ◌/◌, sym, ◌∙◌, subst, arith}
use Rattle.std.proofs.lemmas.Bool.{true≢false}
use Rattle.backfill.specs.Reserved.{FitsAt}
use Rattle.backfill.proofs.Fitting.{fits_before, fits_since}
use Rattle.backfill.proofs.reserving.least_fitting.Goals as goal

pub loop-low-preserved-then-branch : goal.loop-low-preserved-then-branch
loop-low-preserved-then-branch c = record {
  from = c.loop-low.invariant.from;
  order = c.end_by-high.ensures.by.0;
  fits = fits_since c.args.spec.now c.args.graph.now.grant c.args.live.now c.end_by-high.result (c.loop-low.low + (c.loop-low.high - c.loop-low.low) / 2)
      c.end_by-high.ensures.last (c.in_ok-fits_at.ensures.0 c.if-branch.true);
  least = c.loop-low.invariant.least;
}

pub loop-low-preserved : goal.loop-low-preserved
loop-low-preserved c =
    let middle = c.loop-low.low + (c.loop-low.high - c.loop-low.low) / 2 in
    record {
      from = omega (arith, c.next_end-low.ensures.past.0, c.loop-low.invariant.from);
      order = c.next_end-low.ensures.past.1;
      fits = c.loop-low.invariant.fits;
      least = λ sooner from below fits. true≢false (sym (c.in_ok-fits_at.ensures.1 (fits_before c.args.spec.now c.args.graph.now.grant c.args.live.now
          middle c.next_end-low.result sooner c.next_end-low.ensures.first below fits)) ∙ c.if-branch.false);
    }

pub returns : goal.returns
returns c =
    let met : c.loop-low.high ≡ c.loop-low.low = omega arith in
    record {
      from = c.loop-low.invariant.from;
      fits = subst (FitsAt c.args.spec.now c.args.graph.now.grant c.args.live.now) met c.loop-low.invariant.fits;
      least = c.loop-low.invariant.least;
    }
