use Rattle.std.proofs.Common.{arith, inl, inr}
use Rattle.std.proofs.lemmas.Bool.{cases_lt}
use Rattle.kvs_space.proofs.Announced.{parent-below}
use Rattle.kvs_requests.proofs.Ways.{above-le, climbed, passed}
use Rattle.kvs_requests.proofs.rows.toward.Goals as goal

pub loop-next-preserved : goal.loop-next-preserved
loop-next-preserved c =
    let i = c.loop-next.invariant in
    let l = parent-below c.args.fanout c.loop-next.next (omega (arith, c.loop-next-test.true)) in
    record {
      top = omega (arith, l, i.top);
      way = climbed c.args.fanout c.loop-next.next c.args.home i.way;
      below = λ lower above. passed c.args.fanout c.args.at c.loop-next.next c.loop-next-test.true c.if-next-fanout.true (i.below lower above).1;
    }

pub returns-else-next-at-clause-there : goal.returns-else-next-at-clause-there
returns-else-next-at-clause-there c = λ _ above.
    let le = above-le c.args.fanout c.args.at c.args.home above in
    elim (cases_lt c.args.at c.args.home) [
      | inl lower ↦ absurd (let h = (c.loop-next.invariant.below lower above).0 in let n = c.if-next-at.false in omega arith)
      | inr upper ↦ omega arith
    ]
