use Rattle.std.proofs.Common.{◌≡◌, ℕ, ◌+◌, ◌<◌, ◌≤◌, ◌++◌, List, [], ◌∷◌, length, get_or, drop, sym, ◌∙◌, append-nil}
use Rattle.std.proofs.Math.ListN.{drop_of_length-le}
use Rattle.idset.specs.declared.ranges.IdRange.{IdRange}
use Rattle.idset.proofs.Spans.{spans, ids_in-spans}
use Rattle.idset.proofs.Gaps.{drop_next, no_range}
use Rattle.idset.proofs.Walks.{IsListing, listing_begun, listing_more}
use Rattle.idset.proofs.ranges.list.Goals as goal

reached : (all : List IdRange) (ids : List ℕ) (i : ℕ) → i < length all → IsListing all ids (drop i all) → IsListing all ids (get_or all i no_range ∷ drop (i + 1) all)
reached all ids i h c = rw (drop_next all i h) at c

ended : (all : List IdRange) (ids : List ℕ) (i : ℕ) → length all ≤ i → IsListing all ids (drop i all) → ids ++ [] ≡ spans all
ended all ids i h c = (rw (drop_of_length-le all h) at c).whole

pub loop-range-init : goal.loop-range-init
loop-range-init c = listing_begun _ _ c.new-ids.ensures.items c.requires

pub add_ids-requires : goal.add_ids-requires
add_ids-requires c = (reached _ _ _ c.loop-range-test.true c.loop-range.invariant).apart.1

pub loop-range-preserved : goal.loop-range-preserved
loop-range-preserved c = rw c.in_ok-add_ids.ensures (listing_more _ _ _ _ (reached _ _ _ c.loop-range-test.true c.loop-range.invariant))

pub returns : goal.returns
returns c = sym (append-nil _) ∙ ended _ _ _ c.loop-range-test.false c.loop-range.invariant ∙ sym (ids_in-spans _ c.requires)
