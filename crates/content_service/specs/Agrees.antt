-- When a content service stands where a log leaves it.
use Rattle.std.specs.Prelude.{◌≡◌, ℕ, ◌<◌, true, false, IsTrue, None, length, slice_index_or}
use Rattle.fl_digest.specs.declared.BlobRef.{BlobRef}
use Rattle.kvs_txn.specs.declared.txn.By.{By}
use Rattle.kvs_rules.specs.declared.events.KvsAsk.TheVariants as ask
use Rattle.kvs_rules.specs.declared.events.KvsAnswer.{KvsAnswer}
use Rattle.kvs_rules.specs.declared.events.KvsAnswer.TheVariants as answer
use Rattle.kvs_rules.specs.Log.{Log, IsOpen, is_answered, is_asked, is_denied, is_landed}
use Rattle.kvs_rules.specs.Namespaces.{Setting, Request}
use Rattle.kvs_rules.specs.Answers.{HasGrounds, IsStoredAt}
use Rattle.kvs_content.specs.Agrees.{AgreesContent, IsKept}
use Rattle.kvs_content.specs.Value.{ContentValue}
use Rattle.std.specs.Prelude.{Some}
use Rattle.content_service.specs.declared.rows.Row.{Row}
use Rattle.content_service.specs.declared.rows.Stage.{Stage}
use Rattle.content_service.specs.declared.rows.Stage.TheVariants as stage
use Rattle.content_service.specs.Asks.{IsContentAnswer, asks_content, is_content}
use Rattle.content_service.specs.Rows.{AreApart, asked_of}
use Rattle.content_service.specs.Value.{ContentServiceValue}

-- what a command is told to be stored at its broker is kept
abbrev pub IsSafe : ContentValue → Setting → Log → ℕ → KvsAnswer → Type 0
IsSafe v set log broker (answer.Stored reference) = IsKept v set log broker reference
IsSafe v set log broker _ = Unit {0}

-- a command may be told so, now and later
pub record MayTell (v : ContentValue) (set : Setting)
    (log : Log) (by : By) (request : Request) (given : KvsAnswer) : Type 0 where
  pub about : IsContentAnswer given
  pub grounds : HasGrounds set log by request given None
  pub safe : IsSafe v set log request.broker given

-- what the log says of a request at this stage
abbrev pub StageAgrees : ContentValue → Setting → Log → By → Request → Stage → Type 0
StageAgrees v set log by request (stage.Entered asked) = request.ask ≡ asked_of asked
StageAgrees v set log by request stage.Loading = Unit {0}
StageAgrees v set log by request stage.Flushing = request.ask ≡ ask.Flush
StageAgrees v set log by request (stage.Held given) = MayTell v set log by request given

-- what the log says of an open request
pub record RowAgrees (v : ContentValue) (set : Setting) (log : Log) (row : Row) : Type 0 where
  pub asked : IsTrue (is_asked row.by log)
  pub unanswered : is_answered row.by log ≡ false
  pub request : Request
  pub made : set.asks row.by ≡ Some request
  pub about : is_content request.ask ≡ true
  pub home : request.broker ≡ row.broker
  pub staged : StageAgrees v set log row.by request row.stage

-- a content service stands where the log leaves it, the service having this setting: its contents
-- do, each command that waits for something of contents has its one request, what was told to be
-- stored is kept, and no landing and no denial was of a command that asks something of contents
pub record AgreesService (v : ContentServiceValue) (set : Setting) (log : Log) : Type 0 where
  pub content : AgreesContent v.content set log
  pub rows : (k : ℕ) (d : Row) → k < length v.rows
      → RowAgrees v.content set log (slice_index_or v.rows k d)
  pub apart : AreApart v.rows
  pub open_rows : (by : By) → asks_content set by ≡ true → IsOpen by log
      → (k : ℕ) × (k < length v.rows) × ((d : Row) → (slice_index_or v.rows k d).by ≡ by)
  pub kept : (broker : ℕ) (reference : BlobRef) → broker < set.size
      → IsStoredAt set log broker reference → IsKept v.content set log broker reference
  pub strange : (by : By) → asks_content set by ≡ true
      → is_asked by log ≡ false → is_answered by log ≡ false
  pub unlanded : (by : By) → asks_content set by ≡ true → is_landed by log ≡ false
  pub undenied : (by : By) → asks_content set by ≡ true → is_denied by log ≡ false
