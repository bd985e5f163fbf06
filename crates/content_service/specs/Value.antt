-- A content service as its callers see it.
use Rattle.std.specs.Prelude.{ℕ, Bool, List}
use Rattle.kvs_content.specs.Value.{ContentValue}
use Rattle.content_service.specs.declared.rows.Row.{Row}

-- callers read `spent` and `size` alone; the rest serves the words of `Steps` and `Agrees`
pub record ContentServiceValue : Type 0 where
  pub spent : Bool
  pub size : ℕ
  pub content : ContentValue
  pub rows : List Row  -- the requests that aren't answered
