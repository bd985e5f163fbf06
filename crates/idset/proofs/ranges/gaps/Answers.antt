use Rattle.std.proofs.Common.{◌≡◌, ℕ, Bool, ◌&&◌, leb, ◌+◌, ◌≤◌, ◌++◌, List, length, get_or, drop, ◌∙◌, arith}
use Rattle.std.proofs.Math.ListN.{drop_of_length-le}
use Rattle.std.proofs.lemmas.Bool.Decides.{nat_tests}
use Rattle.idset.specs.Ranges.{gap}
use Rattle.idset.specs.declared.ranges.IdRange.{IdRange}
use Rattle.idset.proofs.Gaps.{IsFilling, filling_begun, filling_more, drop_next, no_range, gaps-apart, gaps-others, gaps_from}
use Rattle.idset.proofs.ranges.gaps.Goals as goal

-- the state as the next range is reached
turn : (all gaps : List IdRange) (next i : ℕ) → i + 1 ≤ length all → IsFilling all gaps next (drop i all) → IsFilling all (gaps ++ gap next (get_or all i no_range).first) ((get_or all i no_range).last + 1) (drop (i + 1) all)
turn all gaps next i h f = filling_more all gaps next (get_or all i no_range) (drop (i + 1) all) (rw (drop_next all i (omega arith)) at f)

done : (all gaps : List IdRange) (next i : ℕ) → length all ≤ i → IsFilling all gaps next (drop i all) → gaps ++ gap next 65536 ≡ gaps_from 0 all
done all gaps next i h f = (rw (drop_of_length-le all h) at f).whole

from_zero : (id : ℕ) (b : Bool) → (leb 0 id && b) ≡ b
from_zero id b = grind (arith, nat_tests)

pub loop-range-init : goal.loop-range-init
loop-range-init c = filling_begun _ _ c.new-gaps.ensures.items c.requires

pub loop-range-preserved : goal.loop-range-preserved
loop-range-preserved c = rw c.in_ok-add_gap.ensures (turn _ _ _ _ (omega arith) c.loop-range.invariant)

pub returns-clause-apart : goal.returns-clause-apart
returns-clause-apart c = rw (c.in_ok-add_gap-2.ensures, done _ _ _ _ c.loop-range-test.false c.loop-range.invariant) (gaps-apart c.args.ranges.now 0 (omega arith) c.requires)

pub returns-clause-others : goal.returns-clause-others
returns-clause-others c = λ id small. rw (c.in_ok-add_gap-2.ensures, done _ _ _ _ c.loop-range-test.false c.loop-range.invariant) (gaps-others c.args.ranges.now 0 id c.requires small ∙ from_zero id _)
