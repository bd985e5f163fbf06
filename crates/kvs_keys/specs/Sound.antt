-- What holds of a service of keys between its calls.
use Rattle.std.specs.Prelude.{◌≡◌, ◌≢◌, ℕ, ◌<◌, ◌≤◌, ◌^◌, Some, length, slice_index_or}
use Rattle.std.specs.List.{AllPairs}
use Rattle.kvs_rules.specs.Namespaces.{most_live, primary}
use Rattle.kvs_space.specs.Sound.{IsSoundSpace}
use Rattle.kvs_space.specs.Space.{SpaceValue, live_in, name_at}
use Rattle.kvs_requests.specs.Rows.{ArePlaced}
use Rattle.kvs_keys.specs.Value.{KeysValue}

-- a service of keys that isn't spent
pub record IsSound (v : KeysValue) : Type 0 where
  pub fanout : 0 < v.fanout
  pub size : 0 < v.size
  pub brokers : (k : ℕ) (d : SpaceValue) → k < length v.spaces
      → length (slice_index_or v.spaces k d).known ≡ v.size
  pub spaces : (k : ℕ) (d : SpaceValue) → k < length v.spaces
      → IsSoundSpace v.fanout v.grant (slice_index_or v.spaces k d)
  pub few : length v.spaces < 2 ^ 32
  pub room : live_in v.spaces ≤ most_live
  pub first : name_at v.spaces 0 ≡ Some primary
  pub apart : AllPairs (λ one other. one.name ≢ other.name) v.spaces
  pub placed : ArePlaced v.fanout v.size v.spaces v.rows
