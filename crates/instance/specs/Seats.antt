-- Where an actor stands in its commands.
use Rattle.std.specs.Prelude.{◌≡◌, ℕ, ◌-◌, ◌&&◌, max, nat_le, nat_lt, slice_get, slice_set, List, [], ◌∷◌, ◌++◌, Bool, true, false, Option, Some, None, is_some, unwrap_or, length, if◌then◌else◌}
use Rattle.std.specs.Option.{option_map_or, option_map}
use Rattle.std.specs.List.{cons_option}
use Rattle.services.specs.kvs_txn.declared.txn.By.{By}
use Rattle.services.specs.kvs_txn.declared.txn.Op.{Op}
use Rattle.services.specs.kvs_model.Store.{Name}
use Rattle.services.specs.kvs_rules.declared.events.KvsAsk.{KvsAsk}
use Rattle.services.specs.kvs_rules.Log.{Log, Asked}
use Rattle.services.specs.kvs_rules.Namespaces.{Setting}
use Rattle.services.specs.job_service.Feeds.{can_feed}
use Rattle.services.specs.job_service.Replies.{can_reply}
use Rattle.services.specs.kvs_core.Seen.{primary_heard}
use Rattle.services.specs.Steps.{can_take}
use Rattle.services.specs.Value.{ServicesValue}
use Rattle.services.specs.workload.declared.work.Command.{Command}
use Rattle.services.specs.workload.declared.work.Command.TheVariants as command
use Rattle.services.specs.kvs_txn.Staged.{most_ops}
use Rattle.services.specs.answers.Commands.{op_of, takes_staged, used_name}
use Rattle.services.specs.answers.Jobs.{job_ask_of}
use Rattle.instance.specs.declared.seats.OpenLook.{OpenLook}
use Rattle.instance.specs.declared.seats.Seat.{Seat}
use Rattle.instance.specs.declared.seats.Waiting.{Waiting}
use Rattle.instance.specs.declared.seats.Waiting.TheVariants as waiting
use Rattle.instance.specs.Floors.{Floors, floor_in}

-- what an operation that is to be staged behind these finds
abbrev pub room_behind : List Op → Waiting
room_behind ops = if nat_lt (length ops) most_ops then waiting.Staged else waiting.TxnFull

-- the staged operations with one more, if there is room
abbrev pub with_op : List Op → Op → List Op
with_op ops op = if nat_lt (length ops) most_ops then ops ++ op ∷ [] else ops

-- what an actor waits for whose command stages nothing
abbrev pub waits_for : Command → Waiting
waits_for (command.Tell actor) = waiting.Tell actor
waits_for (command.NsUse name) = waiting.Using
waits_for command.Look = waiting.Look
waits_for command.Shutdown = waiting.Shutdown
waits_for c = if is_some (job_ask_of c) then waiting.Jobs else waiting.Service

-- what an actor waits for once the command is issued, where these operations are staged
abbrev pub waiting_after : Command → List Op → Waiting
waiting_after c ops = option_map_or (λ op. room_behind ops) (op_of c) (waits_for c)

-- the staged operations once the command is issued
abbrev pub ops_after : Command → List Op → List Op
ops_after c ops = if takes_staged c then [] else option_map_or (λ op. with_op ops op) (op_of c) ops

-- the namespace in which the actor works once the command is issued, who worked in this one
abbrev pub space_after : Command → Name → Name
space_after c own = unwrap_or (used_name c) own

-- the moment at which a command asks, if it asks
abbrev pub moment_asked : By → (Name → ℕ) → Option KvsAsk → Log
moment_asked by floors asked = cons_option (option_map (λ a. Asked by floors) asked) []

-- how far the actor at this seat has seen each namespace
abbrev pub seat_floor : Seat → Name → ℕ
seat_floor seat = floor_in seat.floors

-- the setting says that the last command of the actor at this seat asks this, if it asks
abbrev pub IsTheAsk : Setting → By → Seat → Option KvsAsk → Type 0
IsTheAsk set by seat None = Unit {0}
IsTheAsk set by seat (Some asked) = set.asks by ≡ Some (record {
  broker = seat.broker;
  namespace = seat.subject;
  ask = asked;
})

-- whether the actor waits for nothing
abbrev pub is_free : Waiting → Bool
is_free waiting.Nothing = true
is_free _ = false

-- how many of the actor's commands are replied
abbrev pub replied_of : Seat → ℕ
replied_of seat = if is_free seat.waiting then seat.issued else seat.issued - 1

-- the actor's command that was issued last
abbrev pub last_command : ℕ → Seat → By
last_command actor seat = record { actor = actor; command = seat.issued - 1 }

-- the seat of an actor that has seen so far
abbrev pub with_floors : Floors → Seat → Seat
with_floors floors seat = record seat { floors = floors }

-- the seats, once this actor has seen so far
abbrev pub raised : List Seat → ℕ → Floors → List Seat
raised seats to floors =
    option_map_or (λ seat. slice_set seats to (with_floors floors seat)) (slice_get seats to) seats

-- an actor has told another, which has seen as far as both since, in every namespace
pub record AreTold (from to : ℕ) (old new : List Seat) : Type 0 where
  pub floors : Floors
  pub seats : new ≡ raised old to floors
  pub joined : (teller seat : Seat) → slice_get old from ≡ Some teller
      → slice_get old to ≡ Some seat →
      (space : Name)
      → floor_in floors space ≡ max (floor_in seat.floors space) (floor_in teller.floors space)

-- whether the actor waits to have told another
abbrev pub is_telling : Waiting → Bool
is_telling (waiting.Tell to) = true
is_telling _ = false

-- whether the broker of the actor at this seat has heard of all that the actor has seen of
-- `primary`, where its last command is about that
abbrev pub has_heard : ServicesValue → Seat → Bool
has_heard services seat = nat_le (floor_in seat.floors seat.subject)
    (primary_heard services.jobs.manager.core seat.broker)

-- whether what the actor waits for is there; a look is recorded, and not answered
abbrev pub has_come : ServicesValue → By → Waiting → Bool
has_come services by waiting.Nothing = false
has_come services by waiting.Staged = true
has_come services by waiting.TxnFull = true
has_come services by (waiting.Tell to) = true
has_come services by waiting.Using = true
has_come services by waiting.Look = false
has_come services by waiting.Service = can_take services by
has_come services by waiting.Jobs = can_reply services.jobs by
has_come services by waiting.Shutdown = true

-- whether the actor looks
abbrev pub is_look : Waiting → Bool
is_look waiting.Look = true
is_look _ = false

-- the look of the actor at this seat, if it looks: its broker, and how far the actor has seen
abbrev pub look_in : Seat → Option OpenLook
look_in seat = if is_look seat.waiting then Some (record {
  broker = seat.broker;
  need = floor_in seat.floors seat.subject;
}) else None

-- whether the actor waits for what becomes of a job, or for time
abbrev pub is_at_jobs : Waiting → Bool
is_at_jobs waiting.Jobs = true
is_at_jobs _ = false

-- whether the command of the actor at this seat is a watch that can be fed: its broker has heard of
-- all that the actor has seen, and of more events of the job than the watch was fed
abbrev pub is_fed_next : ServicesValue → By → Seat → Bool
is_fed_next services by seat =
    is_at_jobs seat.waiting && (has_heard services seat && can_feed services.jobs by)
