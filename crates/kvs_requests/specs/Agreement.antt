-- What a log says of the open requests.
use Rattle.std.specs.Prelude.{◌≡◌, ℕ, ◌<◌, ◌≤◌, max, List, Bool, true, false, IsTrue, IsSome, Option, Some, None, unwrap_or, length, slice_index_or, Contains}
use Rattle.kvs_txn.specs.declared.txn.By.{By}
use Rattle.kvs_txn.specs.declared.txn.Txn.{Txn}
use Rattle.kvs_txn.specs.declared.txn.Group.{Group}
use Rattle.kvs_model.specs.Store.{Name}
use Rattle.kvs_rules.specs.declared.events.KvsAsk.{KvsAsk}
use Rattle.kvs_rules.specs.declared.events.KvsAsk.TheVariants as ask
use Rattle.kvs_rules.specs.declared.events.KvsEvent.TheVariants as event
use Rattle.kvs_rules.specs.Log.{Log, Happened, IsOpen, before_asked, floor_at, is_asked, is_answered, is_landed, is_denied}
use Rattle.kvs_rules.specs.Namespaces.{Setting, Request, landed}
use Rattle.kvs_rules.specs.Brokers.{heard}
use Rattle.kvs_rules.specs.Answers.{IsLegalAnswer}
use Rattle.kvs_requests.specs.declared.rows.Row.{Row}
use Rattle.kvs_requests.specs.declared.rows.Work.{Work}
use Rattle.kvs_requests.specs.declared.rows.Work.TheVariants as work
use Rattle.kvs_requests.specs.declared.rows.Stage.{Stage}
use Rattle.kvs_requests.specs.declared.rows.Stage.TheVariants as stage
use Rattle.kvs_rules.specs.declared.events.KvsAnswer.{KvsAnswer}
use Rattle.kvs_rules.specs.declared.events.KvsAnswer.TheVariants as answer
use Rattle.kvs_space.specs.Space.{SpaceValue, carries, name_at}
use Rattle.kvs_requests.specs.Stages.{joined_in}
use Rattle.kvs_requests.specs.Rows.{AreApart, IsRisingAsk, asks_contents, awaited, is_about_contents}

-- no landing and no denial names the command
pub record IsUndecided (log : Log) (by : By) : Type 0 where
  pub unlanded : is_landed by log ≡ false
  pub undenied : is_denied by log ≡ false

-- nothing in the log is about the command
pub record IsStrange (log : Log) (by : By) : Type 0 where
  pub undecided : IsUndecided log by
  pub unanswered : is_answered by log ≡ false

-- the landing of this number in the namespace carried out the command
pub record HasLanded (log : Log) (space : Name) (by : By) (number : ℕ) : Type 0 where
  pub authors : List (Option By)
  pub groups : List Group
  pub landing : Contains log (Happened (event.Landed space number authors groups))
  pub named : Contains authors (Some by)

-- which commands rank 0 has let wait to land, whatever became of them since
abbrev pub Entrants : Type 0
Entrants = By → Bool

-- the answers that a core makes
abbrev pub IsMadeAnswer : KvsAnswer → Type 0
IsMadeAnswer answer.Committed = Unit {0}
IsMadeAnswer answer.Fenced = Unit {0}
IsMadeAnswer answer.Created = Unit {0}
IsMadeAnswer answer.Removed = Unit {0}
IsMadeAnswer (answer.Refused refusal) = Unit {0}
IsMadeAnswer (answer.Read found uses) = Unit {0}
IsMadeAnswer answer.Reached = Unit {0}
IsMadeAnswer answer.NoNamespace = Unit {0}
IsMadeAnswer answer.Exists = Unit {0}
IsMadeAnswer answer.TooMany = Unit {0}
IsMadeAnswer answer.IsPrimary = Unit {0}
IsMadeAnswer (answer.CountDiffers kept) = Unit {0}
IsMadeAnswer _ = ⊥

-- where a command is told that the counts differ, rank 0 has let the member with the other count
-- wait, and not the command
abbrev pub IsUpheld : Entrants
    → (set : Setting) (log : Log) (by : By) (number : Option ℕ) (given : KvsAnswer)
    → IsLegalAnswer set log by number given → Type 0
IsUpheld entered set log by number (answer.CountDiffers kept) legal =
    (entered legal.grounds.5.held.rival ≡ true) × (entered by ≡ false)
IsUpheld entered set log by number _ legal = Unit {0}

-- a command may be told so, now and later
abbrev pub MayTell : Entrants → Setting → Log → By → Option ℕ → KvsAnswer → Type 0
MayTell entered set log by number given = (legal : IsLegalAnswer set log by number given)
    × IsMadeAnswer given × IsUpheld entered set log by number given legal

-- a landing that carries this out carries out what is asked
abbrev pub IsWorkOf : KvsAsk → Work → Type 0
IsWorkOf asked work.Commit = (txn : Txn) × (asked ≡ ask.Commit txn)
IsWorkOf asked work.Fence = (name : List ℕ) × (count : ℕ)
    × (txn : Txn) × (asked ≡ ask.Fence name count txn)
IsWorkOf asked work.Create = asked ≡ ask.Create
IsWorkOf asked work.Remove = asked ≡ ask.Remove

-- what waits to land: a commit or a member of a fence
abbrev pub IsTransaction : Work → Type 0
IsTransaction work.Commit = Unit {0}
IsTransaction work.Fence = Unit {0}
IsTransaction _ = ⊥

-- the number that a command's broker had heard of its namespace when it asked
abbrev pub heard_at : Log → By → Request → ℕ
heard_at log by request = unwrap_or (heard (before_asked by log) request.broker request.namespace) 0

-- what a request needs its broker to have heard, if it reads or waits: at least what its actor had
-- seen, what the broker had heard when it asked, and the number that it waits for
pub record IsNeeded (log : Log) (by : By) (request : Request) (need : ℕ) : Type 0 where
  pub needs : need ≡ max
      (max (floor_at by log request.namespace) (heard_at log by request)) (awaited request.ask)
  pub low : heard_at log by request ≤ landed log request.namespace

-- what stays at its broker until that has heard a number
abbrev pub IsParkedAsk : KvsAsk → Type 0
IsParkedAsk (ask.Read query path) = Unit {0}
IsParkedAsk (ask.Wait number) = Unit {0}
IsParkedAsk _ = ⊥

-- what the log says of a request at this stage
abbrev pub StageAgrees : Entrants → Setting → Log → List SpaceValue → By → Request → Stage → Type 0
StageAgrees entered set log spaces by request (stage.Rising from to asked) =
    IsUndecided log by × (request.ask ≡ asked) × IsRisingAsk asked × (entered by ≡ false)
StageAgrees entered set log spaces by request (stage.Arrived asked) =
    IsUndecided log by × (request.ask ≡ asked) × IsRisingAsk asked × (entered by ≡ false)
StageAgrees entered set log spaces by request (stage.Joined space work) =
    IsUndecided log by × IsWorkOf request.ask work
    × (name_at spaces space ≡ Some request.namespace) × IsTransaction work × (entered by ≡ true)
StageAgrees entered set log spaces by request (stage.Landed space number work) =
    IsWorkOf request.ask work × (is_denied by log ≡ false)
    × HasLanded log request.namespace by number
    × (name_at spaces space ≡ Some request.namespace)
StageAgrees entered set log spaces by request (stage.Falling from to given) =
    MayTell entered set log by None given
StageAgrees entered set log spaces by request (stage.Ended given) =
    MayTell entered set log by None given
StageAgrees entered set log spaces by request (stage.Returning from to space asked) =
    IsUndecided log by × (request.ask ≡ asked) × IsParkedAsk asked
    × (name_at spaces space ≡ Some request.namespace)
StageAgrees entered set log spaces by request (stage.Parked space asked) =
    IsUndecided log by × (request.ask ≡ asked) × IsParkedAsk asked
    × (name_at spaces space ≡ Some request.namespace)
StageAgrees entered set log spaces by request (stage.Held number given) =
    MayTell entered set log by number given

-- what the log says of an open request; it waits to land exactly where the namespace carries it
pub record RowAgrees (entered : Entrants) (set : Setting)
    (log : Log) (spaces : List SpaceValue) (row : Row) : Type 0 where
  pub asked : IsTrue (is_asked row.by log)
  pub unanswered : is_answered row.by log ≡ false
  pub request : Request
  pub made : set.asks row.by ≡ Some request
  pub keys : is_about_contents request.ask ≡ false
  pub home : request.broker ≡ row.broker
  pub inside : request.namespace ≡ row.namespace
  pub needed : IsNeeded log row.by request row.need
  pub staged : StageAgrees entered set log spaces row.by request row.stage
  pub tied : (k : ℕ) (d : SpaceValue) → k < length spaces
      → joined_in k row.stage ≡ carries (slice_index_or spaces k d) row.by

-- the open requests are those that the log leaves, of commands that don't ask about contents
pub record RowsAgree (entered : Entrants) (set : Setting)
    (log : Log) (spaces : List SpaceValue) (items : List Row) : Type 0 where
  pub rows : (k : ℕ) (d : Row) → k < length items
      → RowAgrees entered set log spaces (slice_index_or items k d)
  pub apart : AreApart items
  pub strange : (by : By) → IsSome (set.asks by) → is_asked by log ≡ false → IsStrange log by
  pub outside : (by : By) → is_asked by log ≡ false → entered by ≡ false
  pub open_rows : (by : By) → asks_contents set by ≡ false → IsOpen by log
      → (k : ℕ) × (k < length items) × ((d : Row) → (slice_index_or items k d).by ≡ by)
