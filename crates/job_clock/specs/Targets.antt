-- The seconds that open advances wait for, and the second to which time goes next.
use Rattle.std.specs.Prelude.{◌≡◌, ℕ, ◌+◌, ◌-◌, ◌<◌, ◌≤◌, ◌&&◌, nat_le, List, ◌++◌, true, Option, Some, None, All, Contains, filter_map}
use Rattle.kvs_txn.specs.declared.txn.By.{By}
use Rattle.instance_rules.specs.Log.{Advance, Instance, Issued, Log, Moment, now_of}
use Rattle.job_commands.specs.Rows.{CommandsValue}
use Rattle.job_commands.specs.declared.ask.JobAsk.{JobAsk}
use Rattle.job_commands.specs.declared.ask.JobAsk.TheVariants as ask
use Rattle.job_commands.specs.declared.row.Row.{Row}
use Rattle.job_commands.specs.declared.row.Stage.{Stage}
use Rattle.job_commands.specs.declared.row.Stage.TheVariants as stage

-- ---- targets

-- the second that an open advance waits for, which was issued at this one
abbrev pub target_by : ℕ → JobAsk → Option ℕ
target_by issued (ask.Advance seconds) = Some (issued + seconds)
target_by issued _ = None

abbrev pub target_at : Row → Stage → Option ℕ
target_at row stage.Waits = target_by row.issued row.ask
target_at row (stage.Landed number) = None

abbrev pub target_in : Row → Option ℕ
target_in row = target_at row row.stage

abbrev pub targets_of : CommandsValue → List ℕ
targets_of v = filter_map target_in v.rows

-- the advance of this row is reached: it can be told so
pub record IsReached (row : Row) (now : ℕ) : Type 0 where
  pub seconds : ℕ
  pub asks : row.ask ≡ ask.Advance seconds
  pub waits : row.stage ≡ stage.Waits
  pub passed : (nat_le row.issued now && nat_le seconds (now - row.issued)) ≡ true

-- ---- ticks

-- the second to which time goes next: the least one ahead of the targets and of the ends of
-- commands and resources, where a target is ahead
pub record IsNextTick (targets ends : List ℕ) (now second : ℕ) : Type 0 where
  pub target : ℕ
  pub wanted : Contains targets target
  pub unreached : now < target
  pub above : now < second
  pub one : Contains (targets ++ ends) second
  pub least : (other : ℕ) → Contains (targets ++ ends) other → now < other → second ≤ other

-- ---- how far time can go

-- the present second and all targets are no later than so many seconds behind the birth
pub record AreInTime (v : CommandsValue) (birth now span : ℕ) : Type 0 where
  pub present : now ≤ birth + span
  pub targets : All (λ target. target ≤ birth + span) (targets_of v)

-- the moment issues an advance, which has this target
pub record IsNewTarget (inst : Instance) (log : Log) (m : Moment) (target : ℕ) : Type 0 where
  pub by : By
  pub seconds : ℕ
  pub issues : m ≡ Issued by
  pub asks : inst.asks by ≡ Some (Advance seconds)
  pub is : target ≡ now_of inst log + seconds
