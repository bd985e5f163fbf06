use Rattle.std.proofs.Common.{◌≡◌, ℕ, Some, cond, is_some, take, drop}
use Rattle.std.specs.List.{find}
use Rattle.std.specs.Ordering.{nat_cmp}
use Rattle.std.specs.BTreeMap.{get}
use Rattle.idset.specs.Ids.{has}
use Rattle.resource_set.proofs.placing.place_ranks.Given as goal

abbrev pub invariant-loop-rank : goal.invariant-loop-rank
invariant-loop-rank l = record {
  placed : (rank : ℕ) → get nat_cmp l.places rank ≡ cond (has (take l.rank-index l.ranks) rank) (Some l.place) (get nat_cmp l.fn.places rank);
  once : find (λ rank. is_some (get nat_cmp l.fn.places rank)) l.ranks ≡ find (λ rank. is_some (get nat_cmp l.fn.places rank)) (drop l.rank-index l.ranks);
}
