use Rattle.std.proofs.Common.{◌≡◌, ℕ, ◌<◌, ◌≤◌, length}
use Rattle.std.specs.Prelude.{slice_index_or}
use Rattle.job_commands.specs.Rows.{carried}
use Rattle.job_commands.specs.declared.row.Row.{Row}
use Rattle.job_commands.proofs.row.carry.Given as goal

abbrev pub invariant-loop-i : goal.invariant-loop-i
invariant-loop-i l = record {
  same_len : length l.rows.items ≡ length l.fn.rows.items;
  done : (k : ℕ) (d : Row) → k < l.i → slice_index_or l.rows.items k d ≡ carried l.by l.number (slice_index_or l.fn.rows.items k d);
  rest : (k : ℕ) (d : Row) → l.i ≤ k → slice_index_or l.rows.items k d ≡ slice_index_or l.fn.rows.items k d;
}
