-- What holds of a content service between its calls.
use Rattle.std.specs.Prelude.{◌≡◌, ℕ, ◌<◌, length, slice_index_or}
use Rattle.kvs_txn.specs.declared.txn.By.{By}
use Rattle.kvs_content.specs.Messages.{loads_of}
use Rattle.kvs_content.specs.Sound.{IsSoundContent}
use Rattle.kvs_content.specs.Value.{size_of}
use Rattle.content_service.specs.declared.rows.Row.{Row}
use Rattle.content_service.specs.Rows.{loading}
use Rattle.content_service.specs.Value.{ContentServiceValue}

-- a content service that isn't spent: each request is of a broker, and as many loads wait in the
-- contents as in the rows
pub record IsSound (v : ContentServiceValue) : Type 0 where
  pub content : IsSoundContent v.content
  pub size : size_of v.content ≡ v.size
  pub home : (k : ℕ) (d : Row) → k < length v.rows → (slice_index_or v.rows k d).broker < v.size
  pub waits : (by : By) → loads_of by v.content.wants ≡ loading by v.rows
