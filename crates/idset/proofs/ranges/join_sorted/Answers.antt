use Rattle.std.proofs.Common.{ℕ, ◌+◌, ◌<◌, ◌≤◌, List, [], ◌∷◌, length, get_or, drop}
use Rattle.std.proofs.Math.ListN.{drop_of_length-le}
use Rattle.idset.specs.declared.ranges.IdRange.{IdRange}
use Rattle.idset.proofs.Gaps.{drop_next, no_range}
use Rattle.idset.proofs.Joins.{IsJoining, joining_near, joining_far, joining_apart, joining_same}
use Rattle.idset.proofs.ranges.join_sorted.Goals.{then-range-lead, else-range-lead+in_ok-push}
use Rattle.idset.proofs.ranges.join_sorted.Goals as goal

-- the state as the next range is reached, and at the end
reached : (first : IdRange) (all done : List IdRange) (lead : IdRange) (i : ℕ) → i < length all → IsJoining first all done lead (drop i all) → IsJoining first all done lead (get_or all i no_range ∷ drop (i + 1) all)
reached first all done lead i h j = rw (drop_next all i h) at j

ended : (first : IdRange) (all done : List IdRange) (lead : IdRange) (i : ℕ) → length all ≤ i → IsJoining first all done lead (drop i all) → IsJoining first all done lead []
ended first all done lead i h j = rw (drop_of_length-le all h) at j

pub loop-range-preserved : goal.loop-range-preserved
loop-range-preserved c =
    let j = reached _ _ _ _ _ c.loop-range-test.true c.loop-range.invariant in
    elim c.if-range-lead.branch [
      | then-range-lead w ↦ rw (w.done-is, w.lead-is, w.max.ensures) (joining_near _ _ _ _ _ _ j w.if-range-lead.true)
      | else-range-lead+in_ok-push w ↦ rw (w.done-is, w.lead-is, w.in_ok-push.ensures.items) (joining_far _ _ _ _ _ _ j w.if-range-lead.false)
    ]

pub returns-clause-apart : goal.returns-clause-apart
returns-clause-apart c =
    let j = ended _ _ _ _ _ c.loop-range-test.false c.loop-range.invariant in
    rw c.in_ok-push-2.ensures.items (joining_apart _ _ _ _ (rw c.in-Some.ensures.cases.0 at c.requires) j)

pub returns-clause-same : goal.returns-clause-same
returns-clause-same c = λ id.
    let j = ended _ _ _ _ _ c.loop-range-test.false c.loop-range.invariant in
    rw (c.in_ok-push-2.ensures.items, c.in-Some.ensures.cases.0) (joining_same _ _ _ _ id (rw c.in-Some.ensures.cases.0 at c.requires) j)
