use Rattle.std.proofs.Common.{◌≡◌, ℕ, List, map, take}
use Rattle.std.specs.BTreeMap.{get, IsOrdered}
use Rattle.std.specs.Cmp.Lexicographic.{slice_cmp}
use Rattle.std.specs.Ordering.{nat_cmp}
use Rattle.summaries.specs.Counts.{counted, times}
use Rattle.summaries.proofs.counts.tally.Given as goal

abbrev pub invariant-loop-word : goal.invariant-loop-word
invariant-loop-word l = record {
  ordered : IsOrdered (slice_cmp nat_cmp) l.rows;
  exact : (word : List ℕ) → get (slice_cmp nat_cmp) l.rows word ≡ counted (times word (map (λ w. w.now) (take l.word-index l.words)));
}
