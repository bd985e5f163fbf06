use Rattle.std.proofs.Common.{◌≡◌, ℕ, ◌<◌, ◌&&◌, ◌||◌, false, length, take}
use Rattle.std.specs.Prelude.{slice_index_or}
use Rattle.std.specs.List.{list_any}
use Rattle.kvs_rules.specs.Log.{same_command}
use Rattle.kvs_requests.specs.Stages.{is_held}
use Rattle.kvs_requests.proofs.rows.mark_held.Given as goal

abbrev pub invariant-loop-i : goal.invariant-loop-i
invariant-loop-i l = record {
  long : length l.marks ≡ length l.fn.marks;
  marked : (actor : ℕ) → actor < length l.fn.marks → slice_index_or l.marks actor false
      ≡ (slice_index_or l.fn.marks actor false || list_any (λ row. same_command (record { actor = actor; command = slice_index_or l.commands actor 0 }) row.by && is_held row) (take l.i l.rows.items));
}
