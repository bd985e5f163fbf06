use Rattle.std.proofs.Common.{◌≡◌, ℕ, ◌<◌, ◌≤◌, true, false, ltb, List, arith, rules}
use Rattle.std.specs.List.Sorted.{IsPartitionPoint}
use Rattle.std.proofs.lemmas.Bool.{ltb-true, ltb-false}
use Rattle.std.proofs.lemmas.List.Sorted.{IsPartitionPoint-from_clause, IsPartitionedBy-ltb}
use Rattle.job_rules.specs.declared.hold.Hold.{Hold}
use Rattle.graph_match.proofs.Holds.{each_after, each_before, ids_rise}
use Rattle.graph_match.proofs.graph.hold_of.Goals.{After-partition_point}
use Rattle.graph_match.proofs.graph.hold_of.Goals as goal

abbrev Parts : List Hold → ℕ → ℕ → Type 0
Parts live id at = IsPartitionPoint (λ y. ltb y.id id ≡ true) (λ y. ltb y.id id ≡ false) live at

parts : (c : After-partition_point) → Parts c.args.live.now c.args.id c.partition_point.result
parts c =
    let live = c.args.live.now in
    IsPartitionPoint-from_clause (λ h. ltb h.id c.args.id) live c.partition_point.result c.partition_point.ensures.partitioned (IsPartitionedBy-ltb (λ h. h.id) live c.args.id (λ i j d h k. ids_rise live c.requires i j d h k)) (λ a r q k. search rules)

pub returns-clause-before : goal.returns-clause-before
returns-clause-before c = each_before (λ h. h.id < c.args.id) c.partition_point.result c.args.live.now c.partition_point.ensures.bound (λ k d h. ltb-true _ _ ((parts c).0 k d (omega arith) h))

pub returns-clause-after : goal.returns-clause-after
returns-clause-after c = each_after (λ h. c.args.id ≤ h.id) c.partition_point.result c.args.live.now (λ k d h w. ltb-false _ _ ((parts c).1 k d h w))
