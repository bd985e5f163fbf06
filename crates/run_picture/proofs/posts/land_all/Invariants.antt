use Rattle.std.proofs.Common.{drop, List}
use Rattle.run_picture.specs.Follows.{KeepGroups}
use Rattle.run_picture.specs.declared.jobs.JobRow.{JobRow}
use Rattle.run_picture.proofs.posts.land_all.Given as goal

-- what the groups that are left make of the rows, all make of those at the beginning
abbrev pub invariant-loop-group : goal.invariant-loop-group
invariant-loop-group l = (last : List JobRow) → KeepGroups l.rows.items (drop l.group-index l.groups) last → KeepGroups l.fn.rows.items l.groups last
