-- A service of keys as its callers see it.
use Rattle.std.specs.Prelude.{ℕ, Bool, List}
use Rattle.kvs_space.specs.Space.{SpaceValue}
use Rattle.kvs_requests.specs.declared.rows.Row.{Row}

-- callers read `spent` and `size` alone; the rest serves the words of `Steps` and `Agrees`
pub record KeysValue : Type 0 where
  pub spent : Bool
  pub size : ℕ
  pub fanout : ℕ
  pub grant : List ℕ
  pub spaces : List SpaceValue  -- the namespaces in the order of their openings, `primary` first
  pub rows : List Row  -- the requests that aren't answered
