-- When an instance stands where a chronicle of its own leaves it.
use Rattle.std.specs.Prelude.{◌≡◌, ◌≢◌, ℕ, ◌+◌, ◌-◌, ◌<◌, ◌≤◌, ◌==◌, nat_le, nat_lt, cond, List, Bool, true, false, All, IsSome, Option, Some, None, length, map, take, count_by, slice_get, slice_index_or}
use Rattle.std.specs.List.{AllByRecursion as Each, enumerate_from, filter}
use Rattle.std.specs.Option.{option_map, option_map_or}
use Rattle.services.specs.kvs_txn.declared.txn.Author.TheVariants as author
use Rattle.services.specs.kvs_txn.declared.txn.By.{By}
use Rattle.services.specs.kvs_model.Store.{Name}
use Rattle.services.specs.kvs_rules.Log.{Log, is_asked, is_answered}
use Rattle.services.specs.instance_rules.Log.{Shutdown}
use Rattle.services.specs.Agrees.{AgreesServices}
use Rattle.services.specs.workload.declared.work.Command.TheVariants as command
use Rattle.services.specs.workload.declared.work.Line.{Line}
use Rattle.services.specs.workload.Laws.{IsBuilt, IsWithin, KeepsTallies}
use Rattle.services.specs.run_limits.Limits.{most_seconds}
use Rattle.services.specs.workload.Tallies.{seconds_in, submits_in}
use Rattle.services.specs.answers.declared.chronicle.Entry.{Entry}
use Rattle.services.specs.answers.Chronicle.{Setup, top, issues_of, is_issued, replies_to}
use Rattle.services.specs.kvs_txn.Staged.{most_ops}
use Rattle.services.specs.answers.Commands.{broker_of, command_at, namespace_at, staged_at, subject_at}
use Rattle.services.specs.answers.Floors.{floor}
use Rattle.services.specs.answers.Legal.{IsLegal, IsStaging}
use Rattle.services.specs.answers.Jobs.{instance_of, job_ask_at, log_in}
use Rattle.services.specs.answers.Services.{log_of}
use Rattle.services.specs.answers.Whole.{IsEarlierEntry}
use Rattle.instance.specs.declared.seats.Seat.{Seat}
use Rattle.instance.specs.declared.seats.Waiting.{Waiting}
use Rattle.instance.specs.declared.seats.Waiting.TheVariants as waiting
use Rattle.instance.specs.Floors.{floor_in}
use Rattle.instance.specs.Seats.{replied_of}
use Rattle.instance.specs.Value.{InstanceValue}

-- the actor's command of this number
abbrev pub command_of : ℕ → ℕ → By
command_of actor number = record { actor = actor; command = number }

-- the chronicle has issued so many of the actor's commands, and replied to so many, each once
pub record Stands (log : Log) (c : List Entry) (actor issued replied : ℕ) : Type 0 where
  pub counted : count_by (issues_of actor) c ≡ issued
  pub begun : (k : ℕ) → k < issued → is_issued (command_of actor k) c ≡ true
  pub ended : (k : ℕ) → count_by (replies_to (command_of actor k)) c ≡ cond (nat_lt k replied) 1 0
  pub answered : (k : ℕ) → is_asked (command_of actor k) log ≡ true
      → k < replied → is_answered (command_of actor k) log ≡ true

-- what the log says of what the actor waits for, so many of its commands being issued
abbrev pub Waits : Setup → Log → ℕ → ℕ → Waiting → Type 0
Waits set log actor issued waiting.Nothing = Unit {0}
Waits set log actor issued waiting.Staged =
    (0 < issued) × (is_asked (command_of actor (issued - 1)) log ≡ false)
    × IsStaging set (command_of actor (issued - 1)) (λ n. n < most_ops)
Waits set log actor issued waiting.TxnFull =
    (0 < issued) × (is_asked (command_of actor (issued - 1)) log ≡ false)
    × IsStaging set (command_of actor (issued - 1)) (λ n. n ≡ most_ops)
Waits set log actor issued (waiting.Tell to) =
    (0 < issued) × (is_asked (command_of actor (issued - 1)) log ≡ false)
    × (command_at set.work (command_of actor (issued - 1)) ≡ Some (command.Tell to))
Waits set log actor issued waiting.Using =
    (0 < issued) × (is_asked (command_of actor (issued - 1)) log ≡ false)
    × ((name : Name)
    × (command_at set.work (command_of actor (issued - 1)) ≡ Some (command.NsUse name)))
Waits set log actor issued waiting.Look =
    (0 < issued) × (is_asked (command_of actor (issued - 1)) log ≡ false)
    × (command_at set.work (command_of actor (issued - 1)) ≡ Some command.Look)
Waits set log actor issued waiting.Service =
    (0 < issued) × (is_asked (command_of actor (issued - 1)) log ≡ true)
Waits set log actor issued waiting.Jobs =
    (0 < issued) × (is_asked (command_of actor (issued - 1)) log ≡ false)
    × IsSome (job_ask_at set.work (command_of actor (issued - 1)))
    × (job_ask_at set.work (command_of actor (issued - 1)) ≢ Some Shutdown)
Waits set log actor issued waiting.Shutdown =
    (0 < issued) × (is_asked (command_of actor (issued - 1)) log ≡ false)
    × (job_ask_at set.work (command_of actor (issued - 1)) ≡ Some Shutdown)

-- whether a line is the actor's
abbrev pub is_of : ℕ → Line → Bool
is_of actor line = line.actor == actor

-- the seat says how far the workload's lines of the actor have come
pub record IsPlaced (lines : List Line) (actor : ℕ) (seat : Seat) : Type 0 where
  pub within : seat.next ≤ length lines
  pub passed : count_by (is_of actor) (take seat.next lines) ≡ seat.issued
  pub here : (d : Line) → seat.next < length lines
      → (slice_index_or lines seat.next d).actor ≡ actor

-- what the chronicle and its log say of an actor's seat
pub record IsSeat (set : Setup) (log : Log) (c : List Entry)
    (actor : ℕ) (seat : Seat) : Type 0 where
  pub home : seat.broker ≡ broker_of set.work actor
  pub inside : seat.broker < set.size
  pub author : seat.staged.author ≡ author.User actor
  pub placed : IsPlaced set.work.lines actor seat
  pub opened : 0 < seat.issued → command_at set.work (command_of actor (seat.issued - 1))
      ≡ option_map (λ line. line.command) (slice_get set.work.lines seat.last)
  pub staged : seat.staged.ops ≡ staged_at set.work (command_of actor seat.issued)
  pub works : namespace_at set.work (command_of actor seat.issued) ≡ seat.space
  pub about : 0 < seat.issued
      → subject_at set.work (command_of actor (seat.issued - 1)) ≡ seat.subject
  pub floored : (space : Name) → floor set.work c actor space ≡ floor_in seat.floors space
  pub waits : Waits set log actor seat.issued seat.waiting

-- an actor, and one that the workload does not have
abbrev pub ActorStands : Setup → Log → List Entry → ℕ → Option Seat → Type 0
ActorStands set log c actor None = Stands log c actor 0 0
ActorStands set log c actor (Some seat) =
    Stands log c actor seat.issued (replied_of seat) × IsSeat set log c actor seat

-- whether the line at this place isn't issued yet
abbrev pub is_ahead : List Seat → ℕ × Line → Bool
is_ahead seats at = option_map_or (λ seat. nat_le seat.next at.0) (slice_get seats at.1.actor) false

-- the lines that aren't issued yet
abbrev pub lines_ahead : List Seat → List Line → List Line
lines_ahead seats lines = map (λ at. at.1) (filter (is_ahead seats) (enumerate_from 0 lines))

-- what was issued and what is ahead submit as many jobs as all lines, and the seconds of the
-- advances that were issued leave room for those of the lines ahead
pub record IsTallied (v : InstanceValue) (lines : List Line) : Type 0 where
  pub submits : v.services.jobs.submitted + submits_in (lines_ahead v.seats lines)
      ≡ submits_in lines
  pub seconds : v.services.jobs.span + seconds_in (lines_ahead v.seats lines) ≤ most_seconds

-- an instance stands where this chronicle of its own leaves it, of a run that is given this and has
-- not ended; the chronicle has 0 for the number of the instance
pub record AgreesOwn (v : InstanceValue) (set : Setup) (own : List Entry) : Type 0 where
  pub within : IsWithin set.size set.work
  pub known : All (λ l. IsBuilt l.command) set.work.lines
  pub few : KeepsTallies set.work.lines
  pub tallied : IsTallied v set.work.lines
  pub legal : IsLegal set own
  pub early : Each IsEarlierEntry own
  pub seated : length v.seats ≡ length set.work.actors
  pub agrees : AgreesServices v.services (instance_of set) (log_in set.work own)
  pub actors : (actor : ℕ)
      → ActorStands set (log_of set.work top own) own actor (slice_get v.seats actor)

-- the lines are those of a workload with which the instance stands
abbrev pub AreLinesOf : InstanceValue → List Line → Type 0
AreLinesOf v lines = (set : Setup) × (own : List Entry)
    × AgreesOwn v set own × (set.work.lines ≡ lines)
