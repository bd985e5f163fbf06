use Rattle.std.proofs.Common.{◌≡◌, ℕ, ◌<◌, ◌≤◌, true, false, ltb, List, arith, rules}
use Rattle.std.specs.List.Sorted.{IsPartitionPoint, IsStrictlyIncreasing}
use Rattle.std.proofs.lemmas.Bool.{ltb-true, ltb-false}
use Rattle.std.proofs.lemmas.List.Sorted.{IsPartitionPoint-from_clause, IsPartitionedBy-ltb}
use Rattle.run_picture.specs.Rows.{row_ids}
use Rattle.run_picture.specs.declared.jobs.JobRow.{JobRow}
use Rattle.run_picture.proofs.Keeping.{each_before, each_behind, rows_rise}
use Rattle.run_picture.proofs.jobs.place_of.Goals.{After-partition_point}
use Rattle.run_picture.proofs.jobs.place_of.Goals as goal

abbrev Parts : List JobRow → ℕ → ℕ → Type 0
Parts rows id at = IsPartitionPoint (λ y. ltb y.id id ≡ true) (λ y. ltb y.id id ≡ false) rows at

parts : (c : After-partition_point) → IsStrictlyIncreasing (row_ids c.args.rows.now) → Parts c.args.rows.now c.args.id c.partition_point.result
parts c rising =
    let rows = c.args.rows.now in
    IsPartitionPoint-from_clause (λ j. ltb j.id c.args.id) rows c.partition_point.result c.partition_point.ensures.partitioned (IsPartitionedBy-ltb (λ j. j.id) rows c.args.id (λ i j d h k. rows_rise rows rising i j d h k)) (λ a r q k. search rules)

pub returns-clause-before : goal.returns-clause-before
returns-clause-before c = λ rising. each_before (λ j. j.id < c.args.id) c.partition_point.result c.args.rows.now c.partition_point.ensures.bound (λ k d h. ltb-true _ _ ((parts c rising).0 k d (omega arith) h))

pub returns-clause-behind : goal.returns-clause-behind
returns-clause-behind c = λ rising. each_behind (λ j. c.args.id ≤ j.id) c.partition_point.result c.args.rows.now (λ k d h w. ltb-false _ _ ((parts c rising).1 k d h w))
