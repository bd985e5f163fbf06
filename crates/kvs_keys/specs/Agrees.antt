-- When a service of keys stands where a log leaves it.
use Rattle.std.specs.Prelude.{◌≡◌, ℕ, suc, ◌<◌, ◌⊎◌, List, [], ◌∷◌, false, IsSome, IsTrue, None, map, length, slice_index, slice_index_or}
use Rattle.std.specs.List.{AllByRecursion as Each}
use Rattle.kvs_txn.specs.declared.txn.By.{By}
use Rattle.kvs_txn.specs.declared.txn.Group.{Group}
use Rattle.kvs_model.specs.Store.{Name}
use Rattle.kvs_rules.specs.declared.events.KvsAsk.TheVariants as ask
use Rattle.kvs_rules.specs.Log.{Log, IsOpen, is_asked}
use Rattle.kvs_rules.specs.Namespaces.{Setting, Asks, fresh, landed, landings, primary, is_opened, is_removed, opened_names}
use Rattle.kvs_rules.specs.OneStore.{AsksOwn}
use Rattle.kvs_model.specs.OneStore.{AreOwn}
use Rattle.kvs_rules.specs.Brokers.{heard}
use Rattle.kvs_rules.specs.Landings.{IsUsers, IsManagers, AreFresh, commands_of, names_of}
use Rattle.kvs_requests.specs.declared.rows.Row.{Row}
use Rattle.fence_merge.specs.Fences.{Fence}
use Rattle.kvs_space.specs.Space.{SpaceValue, number_of, roots_of, queued}
use Rattle.kvs_keys.specs.Turns.{InTurn}
use Rattle.kvs_keys.specs.Value.{KeysValue}
use Rattle.kvs_requests.specs.Rows.{AreApart, asks_contents}
use Rattle.kvs_requests.specs.Agreement.{IsStrange, Entrants, RowAgrees}

-- a transaction that waits to land: a user's, or the manager's
abbrev pub IsWaiting : Setting → Name → Group → Type 0
IsWaiting set space group = IsUsers set space group ⊎ IsManagers set space group

-- each member of the open fence of this name asks to join it
abbrev pub AreJoining : Setting → Name → List ℕ × Fence → Type 0
AreJoining set space f = Each (λ m. Asks set space
    (record { actor = m.actor; command = m.command }) (ask.Fence f.0 f.1.count m.txn)) f.1.members

-- what the log says of a namespace
pub record SpaceAgrees (set : Setting) (log : Log) (size : ℕ) (s : SpaceValue) : Type 0 where
  pub history : landings log s.name ≡ s.history
  pub last : suc (landed log s.name) ≡ roots_of s
  pub removed : is_removed log s.name ≡ s.removed
  pub told : (b : ℕ) → b < size → heard log b s.name ≡ number_of (slice_index s.known b)
  pub kinds : Each (IsWaiting set s.name) s.merger.ready
  pub joining : Each (AreJoining set s.name) s.merger.fences
  pub fresh : AreFresh set log (commands_of (names_of (queued s.merger)))

-- nothing in the log is about the namespace
pub record IsUntouched (log : Log) (space : Name) : Type 0 where
  pub unheard : (b : ℕ) → heard log b space ≡ None
  pub unlanded : landings log space ≡ []
  pub unnumbered : landed log space ≡ 0
  pub unremoved : is_removed log space ≡ false

-- a service of keys stands where the log leaves it, which has this setting, in which nothing was
-- kept for it and no link names a namespace; commands that ask about contents are another's
pub record Agrees (v : KeysValue) (set : Setting) (log : Log) : Type 0 where
  pub size : set.size ≡ v.size
  pub fanout : set.fanout ≡ v.fanout
  pub base : set.base ≡ fresh v.grant
  pub links : AsksOwn set
  pub own : (space : Name) → Each (Each AreOwn) (landings log space)
  pub names : map (λ s. s.name) v.spaces ≡ primary ∷ opened_names log
  pub spaces : (k : ℕ) (d : SpaceValue) → k < length v.spaces
      → SpaceAgrees set log v.size (slice_index_or v.spaces k d)
  pub untold : (space : Name) → is_opened log space ≡ false → IsUntouched log space
  pub entered : Entrants
  pub rows : (k : ℕ) (d : Row) → k < length v.rows
      → RowAgrees entered set log v.spaces (slice_index_or v.rows k d)
  pub apart : AreApart v.rows
  pub strange : (by : By) → IsSome (set.asks by) → is_asked by log ≡ false → IsStrange log by
  pub outside : (by : By) → is_asked by log ≡ false → entered by ≡ false
  pub open_rows : (by : By) → asks_contents set by ≡ false → IsOpen by log
      → (k : ℕ) × (k < length v.rows) × ((d : Row) → (slice_index_or v.rows k d).by ≡ by)
  pub turns : IsTrue set.settled → InTurn entered set log v.spaces v.rows
