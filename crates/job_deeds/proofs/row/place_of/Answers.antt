use Rattle.std.proofs.Common.{◌≡◌, ℕ, ◌<◌, ◌≤◌, true, false, ltb, List, arith, rules}
use Rattle.std.specs.List.Sorted.{IsPartitionPoint}
use Rattle.std.proofs.lemmas.Bool.{ltb-true, ltb-false}
use Rattle.std.proofs.lemmas.List.Sorted.{IsPartitionPoint-from_clause, IsPartitionedBy-ltb}
use Rattle.manager_rules.specs.Jobs.{StoredJob}
use Rattle.job_deeds.proofs.Places.{each_after, each_before, ids_rise}
use Rattle.job_deeds.proofs.row.place_of.Goals.{After-partition_point}
use Rattle.job_deeds.proofs.row.place_of.Goals as goal

abbrev Parts : List StoredJob → ℕ → ℕ → Type 0
Parts rows id at = IsPartitionPoint (λ y. ltb y.id id ≡ true) (λ y. ltb y.id id ≡ false) rows at

parts : (c : After-partition_point) → Parts c.args.rows.now c.args.id c.partition_point.result
parts c =
    let rows = c.args.rows.now in
    IsPartitionPoint-from_clause (λ j. ltb j.id c.args.id) rows c.partition_point.result c.partition_point.ensures.partitioned (IsPartitionedBy-ltb (λ j. j.id) rows c.args.id (λ i j d h k. ids_rise rows c.requires i j d h k)) (λ a r q k. search rules)

pub returns-clause-before : goal.returns-clause-before
returns-clause-before c = each_before (λ j. j.id < c.args.id) c.partition_point.result c.args.rows.now c.partition_point.ensures.bound (λ k d h. ltb-true _ _ ((parts c).0 k d (omega arith) h))

pub returns-clause-after : goal.returns-clause-after
returns-clause-after c = each_after (λ j. c.args.id ≤ j.id) c.partition_point.result c.args.rows.now (λ k d h w. ltb-false _ _ ((parts c).1 k d h w))
