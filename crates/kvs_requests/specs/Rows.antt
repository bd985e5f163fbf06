-- The open requests and their stages.
use Rattle.std.specs.Prelude.{◌≡◌, ◌≢◌, ℕ, ◌-◌, ◌==◌, ◌<◌, ◌≤◌, List, [], Bool, true, false, Option, Some, None, length, slice_index_or, slice_set, if◌then◌else◌}
use Rattle.std.specs.List.{AllPairs, list_any}
use Rattle.std.specs.Option.{option_map_or}
use Rattle.kvs_txn.specs.declared.txn.By.{By}
use Rattle.kvs_txn.specs.declared.txn.Group.{Group}
use Rattle.kvs_model.specs.Store.{Store}
use Rattle.kvs_model.specs.OneStore.{own_walk}
use Rattle.kvs_rules.specs.Landings.{IsUser}
use Rattle.kvs_rules.specs.Namespaces.{Setting}
use Rattle.kvs_rules.specs.declared.events.KvsAsk.{KvsAsk}
use Rattle.kvs_rules.specs.declared.events.KvsAsk.TheVariants as ask
use Rattle.kvs_rules.specs.declared.events.KvsAnswer.{KvsAnswer}
use Rattle.kvs_rules.specs.declared.events.KvsAnswer.TheVariants as answer
use Rattle.kvs_requests.specs.declared.rows.Entrant.{Entrant}
use Rattle.kvs_requests.specs.declared.rows.Entrant.TheVariants as entrant
use Rattle.kvs_requests.specs.declared.rows.Row.{Row}
use Rattle.kvs_requests.specs.declared.rows.Work.{Work}
use Rattle.kvs_requests.specs.declared.rows.Work.TheVariants as work
use Rattle.kvs_requests.specs.declared.rows.Stage.{Stage}
use Rattle.kvs_requests.specs.declared.rows.Stage.TheVariants as stage
use Rattle.kvs_space.specs.Space.{SpaceValue, known_at, is_authored}
use Rattle.kvs_rules.specs.Brokers.{parent}

-- the request at another stage
abbrev pub with_stage : Stage → Row → Row
with_stage stage row = record {
  by = row.by;
  broker = row.broker;
  namespace = row.namespace;
  need = row.need;
  stage = stage;
}

-- the request of this place is at another stage, and the others are as they were
abbrev pub IsPut : List Row → List Row → ℕ → Stage → Type 0
IsPut old new i stage = (d : Row)
    → new ≡ slice_set old i (with_stage stage (slice_index_or old i d))

-- what the core carries out: a user's commits and members of fences, reads and waits, openings and
-- removals
abbrev pub IsKnownAsk : KvsAsk → Type 0
IsKnownAsk (ask.Commit txn) = IsUser txn.author
IsKnownAsk (ask.Fence name count txn) = IsUser txn.author × (1 ≤ count) × (count ≤ 256)
IsKnownAsk (ask.Read query path) = Unit {0}
IsKnownAsk (ask.Wait number) = Unit {0}
IsKnownAsk ask.Create = Unit {0}
IsKnownAsk ask.Remove = Unit {0}
IsKnownAsk _ = ⊥

-- whether what is asked is about contents, which the service of keys leaves to another
abbrev pub is_about_contents : KvsAsk → Bool
is_about_contents (ask.Store bytes) = true
is_about_contents (ask.Load reference) = true
is_about_contents ask.Flush = true
is_about_contents ask.DropClean = true
is_about_contents _ = false

-- whether the command asks something about contents
abbrev pub asks_contents : Setting → By → Bool
asks_contents set by = option_map_or (λ request. is_about_contents request.ask) (set.asks by) false

-- what goes up to rank 0: a user's commit or member of a fence, what opens or removes a namespace,
-- and what reads or waits in one of which its broker has heard nothing
abbrev pub IsRisingAsk : KvsAsk → Type 0
IsRisingAsk (ask.Commit txn) = IsUser txn.author
IsRisingAsk (ask.Fence name count txn) = IsUser txn.author × (1 ≤ count) × (count ≤ 256)
IsRisingAsk (ask.Read query path) = Unit {0}
IsRisingAsk (ask.Wait number) = Unit {0}
IsRisingAsk ask.Create = Unit {0}
IsRisingAsk ask.Remove = Unit {0}
IsRisingAsk _ = ⊥

-- a request at a broker on its way up: to be taken up at rank 0, and elsewhere on the link to the
-- broker above
abbrev pub risen : ℕ → ℕ → KvsAsk → Stage
risen fanout at asked = if at == 0 then stage.Arrived asked
    else stage.Rising at (parent fanout at) asked

-- the number that a request waits for, whatever its actor saw
abbrev pub awaited : KvsAsk → ℕ
awaited (ask.Wait number) = number
awaited _ = 0

-- where a new request is at its broker: a read or a wait stays there, if the broker has heard of
-- the namespace, which is at this place in the table then; all else goes up
abbrev pub entered : ℕ → ℕ → Option ℕ → KvsAsk → Stage
entered fanout broker (Some space) (ask.Read query path) = stage.Parked space (ask.Read query path)
entered fanout broker (Some space) (ask.Wait number) = stage.Parked space (ask.Wait number)
entered fanout broker place asked = risen fanout broker asked

-- what a stage says of brokers and numbers: a message is on a link of the tree, between a broker
-- and the one above it, and a landing has landed in a namespace of the table
abbrev pub AtPlace : ℕ → ℕ → List SpaceValue → Stage → Type 0
AtPlace fanout size spaces (stage.Rising from to asked) =
    (0 < from) × (to ≡ parent fanout from) × (from < size) × IsRisingAsk asked
AtPlace fanout size spaces (stage.Arrived asked) = IsRisingAsk asked
AtPlace fanout size spaces (stage.Falling from to given) =
    (0 < to) × (from ≡ parent fanout to) × (to < size)
AtPlace fanout size spaces (stage.Landed space number work) =
    (space < length spaces) × (number < known_at spaces space 0)
AtPlace fanout size spaces (stage.Returning from to space asked) =
    (0 < to) × (from ≡ parent fanout to) × (to < size) × (space < length spaces)
AtPlace fanout size spaces (stage.Parked space asked) = space < length spaces
AtPlace fanout size spaces (stage.Joined space work) = space < length spaces
AtPlace fanout size spaces _ = Unit {0}

-- a request of a broker of the tree, at its place
pub record IsPlaced (fanout size : ℕ) (spaces : List SpaceValue) (row : Row) : Type 0 where
  pub home : row.broker < size
  pub place : AtPlace fanout size spaces row.stage

-- each request is at its place
abbrev pub ArePlaced : ℕ → ℕ → List SpaceValue → List Row → Type 0
ArePlaced fanout size spaces rows = (k : ℕ) (d : Row)
    → k < length rows → IsPlaced fanout size spaces (slice_index_or rows k d)

-- no command has two requests
abbrev pub AreApart : List Row → Type 0
AreApart rows = AllPairs (λ one other. one.by ≢ other.by) rows

-- what a command asks that brings this to a namespace
abbrev pub ask_of : Entrant → KvsAsk
ask_of (entrant.Commit txn) = ask.Commit txn
ask_of (entrant.Member name count txn) = ask.Fence name count txn

-- what a landing carries out for such a command
abbrev pub work_of : Entrant → Work
work_of (entrant.Commit txn) = work.Commit
work_of (entrant.Member name count txn) = work.Fence

-- what a command is told whose landing carried this out
abbrev pub carried_out : Work → KvsAnswer
carried_out work.Commit = answer.Committed
carried_out work.Fence = answer.Fenced
carried_out work.Create = answer.Created
carried_out work.Remove = answer.Removed

-- the place in the table of the namespace from which a request is answered; where it needs none,
-- the first
abbrev pub place_of : Stage → ℕ
place_of (stage.Landed space number work) = space
place_of (stage.Parked space asked) = space
place_of _ = 0

-- what a request is told that needed its broker to hear a number, where the broker has this store
abbrev pub found_for : Store → KvsAsk → KvsAnswer
found_for store (ask.Read query path) = answer.Read (own_walk store query path) []
found_for store _ = answer.Reached

-- the stage of a request that its broker answers, which knows of so many roots of the namespace,
-- has this store, and may have heard the namespace's removal
abbrev pub answered : ℕ → Bool → Store → Stage → Stage
answered known ended store (stage.Landed space number work) =
    stage.Held (Some number) (carried_out work)
answered known ended store (stage.Ended answer) = stage.Held None answer
answered known true store (stage.Parked space asked) = stage.Held None answer.NoNamespace
answered known false store (stage.Parked space asked) =
    stage.Held (Some (known - 1)) (found_for store asked)
answered known ended store other = other

-- what becomes of a request whose transaction landed
abbrev pub landed_stage : ℕ → ℕ → Stage → Stage
landed_stage space number (stage.Joined place work) = stage.Landed space number work
landed_stage space number other = other

-- a request, once these transactions have landed
abbrev pub settled : ℕ → ℕ → List Group → Row → Row
settled space number groups row = if list_any (is_authored row.by) groups
    then with_stage (landed_stage space number row.stage) row else row
