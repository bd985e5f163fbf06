use Rattle.std.proofs.Common.{◌≡◌, ℕ, ◌<◌, length}
use Rattle.std.specs.Prelude.{slice_index_or}
use Rattle.services.specs.workload.declared.work.Actor.{Actor}
use Rattle.instance.specs.declared.seats.Seat.{Seat}
use Rattle.instance.specs.First.{IsFirstSeat}
use Rattle.instance.proofs.actors.seated.Given as goal

abbrev pub invariant-loop-actor : goal.invariant-loop-actor
invariant-loop-actor l = record {
  grown : length l.seats.items ≡ l.actor;
  each : (a : ℕ) (d : Seat) (e : Actor) → a < length l.seats.items → IsFirstSeat l.work a (slice_index_or l.work.actors a e).rank (slice_index_or l.seats.items a d);
}
