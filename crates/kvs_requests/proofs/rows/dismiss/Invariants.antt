use Rattle.std.proofs.Common.{◌≡◌, ℕ, ◌<◌, ◌≤◌, length}
use Rattle.std.specs.Prelude.{slice_index_or}
use Rattle.kvs_requests.specs.declared.rows.Row.{Row}
use Rattle.kvs_requests.specs.Refused.{IsDismissedRow}
use Rattle.kvs_requests.proofs.rows.dismiss.Given as goal

abbrev pub invariant-loop-i : goal.invariant-loop-i
invariant-loop-i l = record {
  same_len : length l.rows.items ≡ length l.fn.rows.items;
  done : (k : ℕ) (d : Row) → k < l.i → IsDismissedRow l.fanout l.space (slice_index_or l.fn.rows.items k d) (slice_index_or l.rows.items k d);
  rest : (k : ℕ) (d : Row) → l.i ≤ k → slice_index_or l.rows.items k d ≡ slice_index_or l.fn.rows.items k d;
}
