-- The open requests on contents, and their stages.
use Rattle.std.specs.Prelude.{◌≡◌, ◌≢◌, ℕ, ◌==◌, ◌&&◌, Bool, true, false, List, Option, Some, None, slice_index_or, slice_set, if◌then◌else◌}
use Rattle.std.specs.List.{AllPairs, position, sum_by}
use Rattle.kvs_txn.specs.declared.txn.By.{By}
use Rattle.kvs_rules.specs.Log.{same_command}
use Rattle.kvs_rules.specs.declared.events.KvsAsk.{KvsAsk}
use Rattle.kvs_rules.specs.declared.events.KvsAsk.TheVariants as ask
use Rattle.kvs_rules.specs.declared.events.KvsAnswer.TheVariants as answer
use Rattle.kvs_content.specs.declared.outcomes.Answer.{Answer}
use Rattle.kvs_content.specs.declared.outcomes.Load.{Load}
use Rattle.kvs_content.specs.declared.outcomes.Load.TheVariants as load
use Rattle.kvs_content.specs.declared.node.Flush.{Flush}
use Rattle.kvs_content.specs.declared.node.Flush.TheVariants as flush
use Rattle.kvs_content.specs.Agrees.{told_so}
use Rattle.content_service.specs.declared.rows.ContentAsk.{ContentAsk}
use Rattle.content_service.specs.declared.rows.ContentAsk.TheVariants as content
use Rattle.content_service.specs.declared.rows.Row.{Row}
use Rattle.content_service.specs.declared.rows.Stage.{Stage}
use Rattle.content_service.specs.declared.rows.Stage.TheVariants as stage

-- what is asked, as the service has it
abbrev pub asked_of : ContentAsk → KvsAsk
asked_of (content.Store bytes) = ask.Store bytes
asked_of (content.Load reference) = ask.Load reference
asked_of content.Flush = ask.Flush
asked_of content.DropClean = ask.DropClean

-- the request at another stage
abbrev pub with_stage : Stage → Row → Row
with_stage stage row = record { by = row.by; broker = row.broker; stage = stage }

-- the request of this place is at another stage, and the others are as they were
abbrev pub IsPut : List Row → List Row → ℕ → Stage → Type 0
IsPut old new i stage = (d : Row)
    → new ≡ slice_set old i (with_stage stage (slice_index_or old i d))

-- no command has two requests
abbrev pub AreApart : List Row → Type 0
AreApart rows = AllPairs (λ one other. one.by ≢ other.by) rows

-- what is asked by a request that its broker can serve, where the broker may have nothing dirty
abbrev pub ask_now : Bool → Stage → Option ContentAsk
ask_now flushed (stage.Entered asked) = Some asked
ask_now flushed stage.Flushing = if flushed then Some content.Flush else None
ask_now flushed _ = None

-- whether a request at this stage can be served
abbrev pub is_due : Bool → Stage → Bool
is_due flushed (stage.Entered asked) = true
is_due flushed stage.Flushing = flushed
is_due flushed _ = false

-- whether the broker can serve the request
abbrev pub may_serve : ℕ → Bool → Row → Bool
may_serve broker flushed row = (row.broker == broker) && is_due flushed row.stage

-- whether an answer waits to be taken at this stage
abbrev pub is_held_stage : Stage → Bool
is_held_stage (stage.Held given) = true
is_held_stage _ = false

-- whether the answer of the command waits to be taken in this row
abbrev pub is_held : By → Row → Bool
is_held by row = same_command by row.by && is_held_stage row.stage

-- whether a load waits for its content at this stage
abbrev pub is_loading_stage : Stage → Bool
is_loading_stage stage.Loading = true
is_loading_stage _ = false

-- whether the row is of a load of the command that waits for its content
abbrev pub is_loading : By → Row → Bool
is_loading by row = same_command row.by by && is_loading_stage row.stage

-- how many such loads there are
abbrev pub loading : By → List Row → ℕ
loading by rows = sum_by (λ row. if is_loading by row then 1 else 0) rows

-- how often a request at this stage is still served, at most
abbrev pub services_left : Stage → ℕ
services_left (stage.Entered asked) = 2
services_left stage.Flushing = 1
services_left _ = 0

abbrev pub all_services : List Row → ℕ
all_services rows = sum_by (λ row. services_left row.stage) rows

-- the stage of a load, by what it came to
abbrev pub loaded : Load → Stage
loaded load.Waits = stage.Loading
loaded (load.Told bytes) = stage.Held (told_so bytes)

-- the stage of a flush, by what it is told now
abbrev pub flushed_stage : Flush → Stage
flushed_stage flush.Waits = stage.Flushing
flushed_stage (flush.Clashed reference) = stage.Held (answer.Clashed reference)
flushed_stage flush.Flushed = stage.Held answer.Flushed

-- the load that a delivery answers is told so, if it answers one, and the other requests are as
-- they were
abbrev pub IsHanded : Option Answer → List Row → List Row → Type 0
IsHanded None old new = new ≡ old
IsHanded (Some told) old new = (i : ℕ) × (position (is_loading told.by) old ≡ Some i)
    × IsPut old new i (stage.Held (told_so told.bytes))
