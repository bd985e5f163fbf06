-- Where the actors of a workload stand before anything has happened.
use Rattle.std.specs.Prelude.{◌≡◌, ℕ, ◌<◌, List, [], length, slice_index_or}
use Rattle.services.specs.kvs_txn.declared.txn.Author.TheVariants as author
use Rattle.services.specs.kvs_model.Store.{Name}
use Rattle.services.specs.kvs_rules.Namespaces.{primary}
use Rattle.services.specs.workload.declared.work.Actor.{Actor}
use Rattle.services.specs.workload.declared.work.Workload.{Workload}
use Rattle.instance.specs.declared.seats.Seat.{Seat}
use Rattle.instance.specs.declared.seats.Waiting.TheVariants as waiting
use Rattle.instance.specs.Floors.{floor_in}
use Rattle.instance.specs.Agrees.{IsPlaced}

-- the seat of an actor at its broker, in `primary`, with its first line ahead and nothing issued
pub record IsFirstSeat (work : Workload) (actor : ℕ) (rank : ℕ) (seat : Seat) : Type 0 where
  pub home : seat.broker ≡ rank
  pub fresh : seat.issued ≡ 0
  pub free : seat.waiting ≡ waiting.Nothing
  pub author : seat.staged.author ≡ author.User actor
  pub unstaged : seat.staged.ops ≡ []
  pub works : seat.space ≡ primary
  pub unseen : (space : Name) → floor_in seat.floors space ≡ 0
  pub placed : IsPlaced work.lines actor seat

-- a seat for each actor of the workload
pub record AreFirstSeats (work : Workload) (seats : List Seat) : Type 0 where
  pub seated : length seats ≡ length work.actors
  pub each : (a : ℕ) (d : Seat) (e : Actor) → a < length seats
      → IsFirstSeat work a (slice_index_or work.actors a e).rank (slice_index_or seats a d)
