-- Where a request is, and what can be done with it there.
use Rattle.std.specs.Prelude.{ℕ, ◌==◌, ◌&&◌, ◌||◌, nat_lt, List, Bool, true, false, if◌then◌else◌, slice_get, Option, Some, None}
use Rattle.std.specs.List.{sum_by}
use Rattle.std.specs.Option.{option_map, option_map_or}
use Rattle.fence_merge.specs.Fences.{fence_of}
use Rattle.kvs_rules.specs.declared.events.KvsAsk.TheVariants as ask
use Rattle.kvs_requests.specs.declared.rows.Row.{Row}
use Rattle.kvs_requests.specs.declared.rows.Stage.{Stage}
use Rattle.kvs_requests.specs.declared.rows.Stage.TheVariants as stage
use Rattle.kvs_requests.specs.declared.rows.Kind.{Kind}
use Rattle.kvs_requests.specs.declared.rows.Kind.TheVariants as kind
use Rattle.kvs_space.specs.Space.{SpaceValue, known_at, has_heard_end}

-- whether a request at this stage is a message on the link between two brokers
abbrev pub is_message : ℕ → ℕ → Stage → Bool
is_message from to (stage.Rising a b ask) = (a == from) && (b == to)
is_message from to (stage.Falling a b answer) = (a == from) && (b == to)
is_message from to (stage.Returning a b space ask) = (a == from) && (b == to)
is_message from to _ = false

-- whether a request is a message on the link
abbrev pub is_on : ℕ → ℕ → Row → Bool
is_on from to row = is_message from to row.stage

-- whether a request at this stage waits to land in the namespace of this place in the table
abbrev pub joined_in : ℕ → Stage → Bool
joined_in k (stage.Joined space work) = space == k
joined_in k _ = false

-- whether a request at this stage waits at rank 0 to be taken up
abbrev pub is_arrived_stage : Stage → Bool
is_arrived_stage (stage.Arrived ask) = true
is_arrived_stage _ = false

abbrev pub is_arrived : Row → Bool
is_arrived row = is_arrived_stage row.stage

-- whether a request at this stage is a commit or a member of a fence that waits at rank 0 to be
-- taken up
abbrev pub is_entering : Stage → Bool
is_entering (stage.Arrived (ask.Commit txn)) = true
is_entering (stage.Arrived (ask.Fence name count txn)) = true
is_entering _ = false

-- the first of two counts, if it is another than the second
abbrev pub other_than : Option ℕ → ℕ → Option ℕ
other_than None count = None
other_than (Some kept) count = if kept == count then None else Some kept

-- the count of the open fence that a request at this stage would join, if that is another than its
-- own
abbrev pub kept_count : SpaceValue → Stage → Option ℕ
kept_count s (stage.Arrived (ask.Fence name count txn)) =
    other_than (option_map (λ f. f.count) (fence_of name s.merger.fences)) count
kept_count s _ = None

-- what rank 0 does with a request at this stage, by what is asked
abbrev pub kind_of : Stage → Kind
kind_of (stage.Arrived ask.Create) = kind.Create
kind_of (stage.Arrived ask.Remove) = kind.Remove
kind_of (stage.Arrived (ask.Read query path)) = kind.Look
kind_of (stage.Arrived (ask.Wait number)) = kind.Look
kind_of _ = kind.Land

-- whether the broker has heard the removal of the namespace of this place in the table
abbrev pub has_ended : List SpaceValue → ℕ → ℕ → Bool
has_ended spaces space broker = option_map_or (has_heard_end broker) (slice_get spaces space) false

-- whether a request at this stage, with this need, can be answered at its broker
abbrev pub has_come : List SpaceValue → ℕ → ℕ → Stage → Bool
has_come spaces broker need (stage.Landed space number work) =
    nat_lt number (known_at spaces space broker)
has_come spaces broker need (stage.Ended answer) = true
has_come spaces broker need (stage.Parked space asked) =
    nat_lt need (known_at spaces space broker) || has_ended spaces space broker
has_come spaces broker need _ = false

-- whether the broker can answer the request, or take it up
abbrev pub may_serve : List SpaceValue → ℕ → Row → Bool
may_serve spaces broker row = if is_arrived row then broker == 0
    else (row.broker == broker) && has_come spaces broker row.need row.stage

-- whether an answer of this stage waits to be taken
abbrev pub is_held_stage : Stage → Bool
is_held_stage (stage.Held number answer) = true
is_held_stage _ = false

abbrev pub is_held : Row → Bool
is_held row = is_held_stage row.stage

-- how often a request at this stage is still served, at most: where it is taken up, and where it is
-- answered
abbrev pub services_left : Stage → ℕ
services_left (stage.Arrived ask) = 2
services_left (stage.Landed space number work) = 1
services_left (stage.Ended answer) = 1
services_left (stage.Parked space asked) = 1
services_left (stage.Returning from to space asked) = 1
services_left _ = 0

abbrev pub all_services : List Row → ℕ
all_services rows = sum_by (λ row. services_left row.stage) rows
