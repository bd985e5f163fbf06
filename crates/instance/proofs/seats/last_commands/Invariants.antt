use Rattle.std.proofs.Common.{◌≡◌, ℕ, ◌-◌, ◌<◌, Some, length}
use Rattle.std.specs.Prelude.{slice_get, slice_index_or}
use Rattle.instance.specs.declared.seats.Seat.{Seat}
use Rattle.instance.proofs.seats.last_commands.Given as goal

abbrev pub invariant-loop-actor : goal.invariant-loop-actor
invariant-loop-actor l = record {
  long : length l.commands ≡ 256;
  each : (k : ℕ) (seat : Seat) → k < l.actor → slice_get l.seats k ≡ Some seat → slice_index_or l.commands k 0 ≡ seat.issued - 1;
}
