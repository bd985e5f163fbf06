use Rattle.std.proofs.Common.{◌≡◌, ◌-◌, ◌∙◌, ◌++◌, suc, ap, sym, arith}
use Rattle.std.specs.Prelude.{filter_map}
use Rattle.hierarchy.specs.Inside.{marked_below}
use Rattle.homes.specs.Inside.{end_at}
use Rattle.homes.proofs.Marking.{mark_at, told_more}
use Rattle.homes.proofs.ends.tell_ends.Goals as goal

pub loop-behind-preserved-in-Continue-1 : goal.loop-behind-preserved-in-Continue-1
loop-behind-preserved-in-Continue-1 c =
    let f = end_at c.args.homes.now in
    let marked = mark_at c.args.marks.now in
    let told = c.loop-behind.chronicle in
    let at = c.loop-behind.behind - 1 in
    let more : suc at ≡ c.loop-behind.behind = omega arith in (
      omega arith,
      ap (λ l. l ++ filter_map f (marked_below marked at)) c.in_ok-push.ensures.added
          ∙ told_more f marked told c.in-Some.entry at c.if-marks-behind.true (sym c.in-Some.ensures)
          ∙ ap (λ n. told ++ filter_map f (marked_below marked n)) more
          ∙ c.loop-behind.invariant.1,
    )
