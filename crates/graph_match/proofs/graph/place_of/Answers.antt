use Rattle.std.proofs.Common.{◌≡◌, ℕ, ◌<◌, length, true, false, ltb, List, arith, rules}
use Rattle.std.specs.List.{HoldsAt}
use Rattle.std.specs.List.Sorted.{IsPartitionPoint}
use Rattle.std.proofs.lemmas.Bool.{ltb-true, ltb-false}
use Rattle.std.proofs.lemmas.List.Sorted.{IsPartitionPoint-from_clause, IsPartitionedBy-ltb}
use Rattle.graph_match.specs.declared.place.Place.{Place}
use Rattle.graph_match.proofs.Turns.{found_place, ranks_rise}
use Rattle.graph_match.proofs.graph.place_of.Goals.{After-partition_point}
use Rattle.graph_match.proofs.graph.place_of.Goals as goal

abbrev Parts : List Place → ℕ → ℕ → Type 0
Parts places rank at = IsPartitionPoint (λ y. ltb y.rank rank ≡ true) (λ y. ltb y.rank rank ≡ false) places at

found : (c : After-partition_point) → (c.partition_point.result < length c.args.places.now) × HoldsAt (λ p. p.rank ≡ c.args.rank) c.args.places.now c.partition_point.result
found c =
    let places = c.args.places.now in
    let parts : Parts places c.args.rank c.partition_point.result = IsPartitionPoint-from_clause (λ p. ltb p.rank c.args.rank) places c.partition_point.result c.partition_point.ensures.partitioned (IsPartitionedBy-ltb (λ p. p.rank) places c.args.rank (λ i j d h k. ranks_rise places c.requires.rising i j d h k)) (λ a r q k. search rules) in
    found_place places c.args.rank c.partition_point.result c.requires.rising c.requires.there (λ k d h w. ltb-true _ _ (parts.0 k d (omega arith) h)) (λ k d h w. ltb-false _ _ (parts.1 k d h w))

pub returns-clause-within : goal.returns-clause-within
returns-clause-within c = (found c).0

pub returns-clause-rank : goal.returns-clause-rank
returns-clause-rank c = (found c).1
