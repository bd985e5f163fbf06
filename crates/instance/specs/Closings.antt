-- What the commands that did not finish are told at the end.
use Rattle.std.specs.Prelude.{ℕ, ◌-◌, ◌&&◌, List, [], ◌∷◌, Bool, true, false, Option, Some, None, unwrap_or, count_by, filter, flat_map, length, map, option_and_then, slice_get, if◌then◌else◌}
use Rattle.std.specs.List.{range_with_len}
use Rattle.std.specs.Option.{option_map, option_map_or}
use Rattle.std.specs.Str.{bytes_eq}
use Rattle.services.specs.kvs_model.Store.{Name}
use Rattle.services.specs.job_states.declared.job.State.{State}
use Rattle.services.specs.kvs_txn.declared.txn.By.{By}
use Rattle.services.specs.kvs_rules.Log.{Log}
use Rattle.services.specs.kvs_rules.Brokers.{heard}
use Rattle.services.specs.workload.declared.work.Command.{Command}
use Rattle.services.specs.workload.declared.work.Command.TheVariants as command
use Rattle.services.specs.workload.declared.work.Line.{Line}
use Rattle.services.specs.answers.declared.chronicle.Entry.{Entry}
use Rattle.services.specs.answers.declared.chronicle.Entry.TheVariants as entry
use Rattle.services.specs.answers.declared.chronicle.Reply.{Reply}
use Rattle.services.specs.answers.declared.chronicle.Reply.TheVariants as reply
use Rattle.instance.specs.declared.seats.Seat.{Seat}
use Rattle.instance.specs.declared.seats.Waiting.{Waiting}
use Rattle.instance.specs.declared.seats.Waiting.TheVariants as waiting
use Rattle.instance.specs.Agrees.{is_of}
use Rattle.instance.specs.Seats.{last_command}

-- the actor's command that was issued last
abbrev pub open_command : List Line → Seat → Option Command
open_command lines seat = option_map (λ line. line.command) (slice_get lines seat.last)

-- whether the actor waits for the service
abbrev pub is_served : Waiting → Bool
is_served waiting.Service = true
is_served _ = false

-- the fence that a command joins, with its count
abbrev pub fence_of : Command → Option (Name × ℕ)
fence_of (command.Fence name count) = Some (name, count)
fence_of _ = None

-- the fence in which the actor at this seat waits, with its count
abbrev pub fence_at : List Line → Seat → Option (Name × ℕ)
fence_at lines seat = if is_served seat.waiting
    then option_and_then fence_of (open_command lines seat) else None

-- whether the actor waits in this fence of the namespace
abbrev pub waits_in : List Line → List Seat → Name → Name → ℕ → Bool
waits_in lines seats space name actor = option_map_or
    (λ seat. option_map_or (λ fence. bytes_eq space seat.subject && bytes_eq name fence.0)
    (fence_at lines seat) false)
    (slice_get seats actor) false

-- the actors that wait in this fence of the namespace
abbrev pub waiting_in : List Line → List Seat → Name → Name → List ℕ
waiting_in lines seats space name =
    filter (waits_in lines seats space name) (range_with_len 0 (length seats))

-- the closing replies to so many commands that were not reached, from this number on
abbrev pub not_reached : ℕ → ℕ → ℕ → List Entry
not_reached actor from count =
    map (λ number. entry.Replied actor number reply.NotReached None) (range_with_len from count)

-- the number of a namespace that a broker has heard
abbrev pub numbers_in : Log → ℕ → Name → ℕ
numbers_in log broker space = unwrap_or (heard log broker space) 0

-- what is said of a command about this namespace that did not finish, whose actor's broker has
-- heard this number of it: how many members have come to its fence, or which number the broker has
-- heard
abbrev pub left_reply : ℕ → List Line → List Seat → Name → Command → Option Reply
left_reply had lines seats space (command.Fence name count) =
    Some (reply.UnfinishedFence (length (waiting_in lines seats space name)) count)
left_reply had lines seats space (command.Wait number) = Some (reply.UnfinishedWait had number)
left_reply had lines seats space _ = None

-- what the actor at this seat is told at the end of its open command, if that did not finish: of a
-- result, the state of its job
abbrev pub unfinished_as : Waiting → ℕ → Option State → List Line → List Seat → Seat → Option Reply
unfinished_as waiting.Service had left lines seats seat =
    option_and_then (left_reply had lines seats seat.subject) (open_command lines seat)
unfinished_as waiting.Jobs had left lines seats seat = option_map reply.UnfinishedJob left
unfinished_as _ had left lines seats seat = None

abbrev pub unfinished_at : ℕ → Option State → List Line → List Seat → Seat → Option Reply
unfinished_at had left lines seats seat = unfinished_as seat.waiting had left lines seats seat

-- the closing replies to the actor at this seat, whose open command is told so: the commands behind
-- were not reached
abbrev pub closings_at : List Line → ℕ → Seat → Reply → List Entry
closings_at lines actor seat given =
    entry.Replied actor (seat.issued - 1) given None
    ∷ not_reached actor seat.issued (count_by (is_of actor) lines - seat.issued)

-- the closing replies to an actor, where this is left of its open command, if it waits for a job
abbrev pub closings_of : (ℕ → Name → ℕ) → (By → Option State)
    → List Line → List Seat → ℕ → List Entry
closings_of numbers left lines seats actor = option_map_or
    (λ seat. option_map_or (closings_at lines actor seat)
    (unfinished_at (numbers seat.broker seat.subject)
    (left (last_command actor seat)) lines seats seat) [])
    (slice_get seats actor) []

-- the closing replies, by actor
abbrev pub closings : (ℕ → Name → ℕ) → (By → Option State) → List Line → List Seat → List Entry
closings numbers left lines seats =
    flat_map (closings_of numbers left lines seats) (range_with_len 0 (length seats))
