use Rattle.std.proofs.Common.{◌≡◌, ℕ, ◌+◌, ◌<◌, ◌≤◌, List, ◌∷◌, length, get_or, drop, ap, arith}
use Rattle.std.proofs.Math.ListN.{drop_of_length-le}
use Rattle.idset.specs.declared.ranges.IdRange.{IdRange}
use Rattle.idset.proofs.Spans.{spans, ids_in-spans}
use Rattle.idset.proofs.Gaps.{drop_next, no_range}
use Rattle.idset.proofs.Walks.{IsCounting, counting_begun, counting_more}
use Rattle.idset.proofs.ranges.count_in.Goals as goal

reached : (all : List IdRange) (count i : ℕ) → i < length all → IsCounting all count (drop i all) → IsCounting all count (get_or all i no_range ∷ drop (i + 1) all)
reached all count i h c = rw (drop_next all i h) at c

ended : (all : List IdRange) (count i : ℕ) → length all ≤ i → IsCounting all count (drop i all) → count + 0 ≡ length (spans all)
ended all count i h c = (rw (drop_of_length-le all h) at c).whole

pub loop-range-init : goal.loop-range-init
loop-range-init c = counting_begun _ c.requires

pub overflow_sub-count : goal.overflow_sub-count
overflow_sub-count c = (reached _ _ _ c.loop-range-test.true c.loop-range.invariant).apart.1.some

pub overflow_add-count : goal.overflow_add-count
overflow_add-count c =
    let r = reached _ _ _ c.loop-range-test.true c.loop-range.invariant in
    omega (arith, r.apart.1.small)

pub overflow_add-count-in-loop-range : goal.overflow_add-count-in-loop-range
overflow_add-count-in-loop-range c =
    let r = reached _ _ _ c.loop-range-test.true c.loop-range.invariant in
    omega (arith, r.apart.0, r.few, r.apart.1.some, r.apart.1.small)

pub loop-range-preserved : goal.loop-range-preserved
loop-range-preserved c = counting_more _ _ _ _ (reached _ _ _ c.loop-range-test.true c.loop-range.invariant)

pub returns : goal.returns
returns c = omega (arith, ended _ _ _ c.loop-range-test.false c.loop-range.invariant, ap length (ids_in-spans _ c.requires))
