use Rattle.std.proofs.Common.{◌≡◌, ℕ, ◌<◌, ◌||◌, false, length, take}
use Rattle.std.specs.Prelude.{slice_index_or}
use Rattle.std.specs.List.{list_any}
use Rattle.content_service.specs.Rows.{is_held}
use Rattle.content_service.proofs.rows.mark_held.Given as goal

abbrev pub invariant-loop-i : goal.invariant-loop-i
invariant-loop-i l = record {
  long : length l.marks ≡ length l.fn.marks;
  marked : (actor : ℕ) → actor < length l.fn.marks → slice_index_or l.marks actor false
      ≡ (slice_index_or l.fn.marks actor false || list_any (is_held (record { actor = actor; command = slice_index_or l.commands actor 0 })) (take l.i l.rows.items));
}
