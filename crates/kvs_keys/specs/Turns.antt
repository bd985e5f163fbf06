-- In which order the members of fences come to rank 0 in a settled run.
use Rattle.std.specs.Prelude.{◌≡◌, ◌≢◌, ℕ, ◌<◌, List, Bool, true, false, IsTrue, Some, length, slice_index_or}
use Rattle.std.specs.Option.{option_map}
use Rattle.fence_merge.specs.Fences.{fence_of}
use Rattle.kvs_txn.specs.declared.txn.By.{By}
use Rattle.kvs_model.specs.Store.{Name}
use Rattle.kvs_rules.specs.Landings.{IsMember, IsUnrivalled}
use Rattle.kvs_rules.specs.Log.{Log, IsPending, before_asked, is_asked}
use Rattle.kvs_rules.specs.Namespaces.{Setting}
use Rattle.kvs_requests.specs.Agreement.{Entrants}
use Rattle.kvs_requests.specs.declared.rows.Row.{Row}
use Rattle.kvs_requests.specs.declared.rows.Stage.{Stage}
use Rattle.kvs_requests.specs.declared.rows.Stage.TheVariants as stage
use Rattle.kvs_space.specs.Space.{SpaceValue}

-- whether a request at this stage is on its way to rank 0, or waits there to be taken up
abbrev pub is_coming_stage : Stage → Bool
is_coming_stage (stage.Rising from to asked) = true
is_coming_stage (stage.Arrived asked) = true
is_coming_stage _ = false

-- the command's request is so
pub record IsComing (rows : List Row) (by : By) : Type 0 where
  pub place : ℕ
  pub within : place < length rows
  pub is : (d : Row) → (slice_index_or rows place d).by ≡ by
  pub comes : (d : Row) → is_coming_stage (slice_index_or rows place d).stage ≡ true

-- the namespace has an open fence of this name and count
pub record HasFence (spaces : List SpaceValue) (space : Name)
    (fence : List ℕ) (count : ℕ) : Type 0 where
  pub place : ℕ
  pub within : place < length spaces
  pub named : (d : SpaceValue) → (slice_index_or spaces place d).name ≡ space
  pub kept : (d : SpaceValue)
      → option_map (λ f. f.count) (fence_of fence (slice_index_or spaces place d).merger.fences)
      ≡ Some count

-- the command's request comes alone: each other member that waits did so when the command asked,
-- and its fence is open
pub record ComesLast (set : Setting) (log : Log)
    (spaces : List SpaceValue) (rows : List Row) (by : By) : Type 0 where
  pub asked : IsTrue (is_asked by log)
  pub alone : (other : By) → IsComing rows other → other ≡ by
  pub met : (other : By) (space : Name) (fence : List ℕ) (count : ℕ) → other ≢ by
      → IsMember set log space fence count other
      → IsPending other (before_asked by log) × HasFence spaces space fence count

-- rank 0 has let the command wait, which asked and has no earlier rival
pub record HasItsTurn (set : Setting) (log : Log) (by : By) : Type 0 where
  pub asked : IsTrue (is_asked by log)
  pub unrivalled : (space : Name) → IsUnrivalled set log space by

-- whom rank 0 has let wait had their turn, and who still comes was the last to ask
pub record InTurn (entered : Entrants) (set : Setting)
    (log : Log) (spaces : List SpaceValue) (rows : List Row) : Type 0 where
  pub let_in : (by : By) → entered by ≡ true → HasItsTurn set log by
  pub coming : (by : By) → IsComing rows by → ComesLast set log spaces rows by
