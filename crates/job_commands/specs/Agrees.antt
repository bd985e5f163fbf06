-- What the open commands and the labels have to do with the log of an instance.
use Rattle.std.specs.Prelude.{◌≡◌, ◌↔◌, ℕ, ◌+◌, ◌-◌, ◌*◌, ◌<◌, ◌≤◌, List, true, false, IsTrue, IsSome, Some, Contains, count_by, length, slice_index}
use Rattle.fluid_ids.specs.Ids.{id_of}
use Rattle.kvs_txn.specs.declared.txn.By.{By}
use Rattle.instance_rules.specs.Desks.{HasBegun, HasSubmitted, Names, submits_at}
use Rattle.instance_rules.specs.Log.{Instance, IsOpen, Log, Named, Submit, before_issue, is_decided, now_of}
use Rattle.instance_rules.specs.Replies.{IsCarriedOut}
use Rattle.job_commands.specs.Asks.{told}
use Rattle.job_commands.specs.Children.{AreChildrenOf}
use Rattle.job_commands.specs.Rows.{CommandsValue, is_submit, job_at, mark_at}
use Rattle.job_commands.specs.declared.ask.JobAsk.{JobAsk}
use Rattle.job_commands.specs.declared.ask.JobAsk.TheVariants as ask
use Rattle.job_commands.specs.declared.row.Row.{Row}
use Rattle.job_commands.specs.declared.row.Stage.{Stage}
use Rattle.job_commands.specs.declared.row.Stage.TheVariants as stage

-- ---- rows

-- the landing of this number carried out the command: it gave the job of a submission its id, or
-- has the event that the command asks for
abbrev pub HasLanded : Log → By → ℕ → JobAsk → Type 0
HasLanded log by number (ask.Submit label urgency needs text) = (id : ℕ) × HasBegun log by id number
HasLanded log by number (ask.Cancel label) = IsCarriedOut log by number
HasLanded log by number (ask.Raise label kind severity note) = IsCarriedOut log by number
HasLanded log by number (ask.Urge label urgency) = IsCarriedOut log by number
HasLanded log by number _ = ⊥

abbrev pub StageAgrees : Log → By → JobAsk → Stage → Type 0
StageAgrees log by asked stage.Waits = is_decided by log ≡ false
StageAgrees log by asked (stage.Landed number) = IsTrue (is_decided by log)
    × HasLanded log by number asked

-- a row is of an open command, tells what it asks and at which broker, the second of its issue,
-- and which landing carried it out, where one did
pub record RowAgrees (inst : Instance) (log : Log) (row : Row) : Type 0 where
  pub waits : IsOpen row.by log
  pub asks : inst.asks row.by ≡ Some (told row.ask)
  pub rank : row.rank ≡ inst.rank row.by
  pub issued : row.issued ≡ now_of inst (before_issue row.by log)
  pub staged : StageAgrees log row.by row.ask row.stage

-- ---- ids

-- this sequence number was given out at this broker in this second, which is no earlier than the
-- birth and no later than the broker's mark
pub record WasDrawn (v : CommandsValue) (birth rank second sequence : ℕ) : Type 0 where
  pub since : birth ≤ second
  pub marked : second ≤ (mark_at v.marks rank).second
  pub below : sequence < slice_index v.issued rank
  pub within : second ≡ (mark_at v.marks rank).second
      → sequence + (mark_at v.marks rank).count < slice_index v.issued rank

-- the id of this second, counted from the birth, at a broker with a sequence number (RFC 19)
abbrev pub id_at : ℕ → ℕ → ℕ → ℕ → ℕ
id_at birth rank second sequence = id_of (1000 * (second - birth)) rank sequence

-- the id was made from what was given out, and no submission that waits has the same
pub record IsDrawn (v : CommandsValue) (birth id : ℕ) : Type 0 where
  pub rank : ℕ
  pub second : ℕ
  pub sequence : ℕ
  pub made : id ≡ id_at birth rank second sequence
  pub drawn : WasDrawn v birth rank second sequence
  pub other : (row : Row) → Contains v.rows row → is_submit row ≡ true → row.rank ≡ rank
      → row.issued ≡ second → row.sequence ≡ sequence → ⊥

-- each submission that waits has a sequence number of its own at its broker in its second, and no
-- job has it
pub record AreDrawn (v : CommandsValue) (birth : ℕ) : Type 0 where
  pub rows : (row : Row) → Contains v.rows row → is_submit row ≡ true
      → WasDrawn v birth row.rank row.issued row.sequence
  pub apart : (a b : Row) → Contains v.rows a → Contains v.rows b → is_submit a ≡ true
      → is_submit b ≡ true → a.rank ≡ b.rank → a.issued ≡ b.issued → a.sequence ≡ b.sequence
      → a.by ≡ b.by
  pub used : (label : List ℕ) (id : ℕ) → job_at label v.labels ≡ Some id → IsDrawn v birth id
  pub few : (rank : ℕ) → slice_index v.issued rank ≤ 1024
  pub counts : (rank : ℕ) → (mark_at v.marks rank).count ≤ slice_index v.issued rank

-- the id was made for this submission, which waits, in an instance that was born at this second
pub record IsIdOf (v : CommandsValue) (birth : ℕ) (by : By) (id : ℕ) : Type 0 where
  pub row : Row
  pub known : Contains v.rows row
  pub named : row.by ≡ by
  pub waits : is_submit row ≡ true
  pub made : id ≡ id_at birth row.rank row.issued row.sequence

-- ---- the whole

-- a row of the command
abbrev pub HasRow : CommandsValue → By → Type 0
HasRow v by = (row : Row) × Contains v.rows row × (row.by ≡ by)

-- the labels name the jobs that the log has under them, the rows are the open commands, as many
-- submissions were issued at each broker, and the children are those of the log. What has begun a
-- job counts as decided
pub record AgreesCommands (v : CommandsValue) (inst : Instance) (log : Log) : Type 0 where
  pub labels : (label : List ℕ) (id : ℕ) → (job_at label v.labels ≡ Some id)
      ↔ Names inst log label id
  pub rows : (row : Row) → Contains v.rows row → RowAgrees inst log row
  pub all : (by : By) (asked : JobAsk) → inst.asks by ≡ Some (told asked) → IsOpen by log
      → HasRow v by
  pub issued : (rank : ℕ) → rank < length v.issued
      → slice_index v.issued rank ≡ count_by (submits_at inst rank) log
  pub drawn : AreDrawn v inst.birth
  pub children : AreChildrenOf v.children log
  pub decided : (by : By) (id : ℕ) → IsSome (inst.asks by) → HasSubmitted log by id
      → IsTrue (is_decided by log)

-- no two commands submit under one label
abbrev pub HasUniqueLabels : Instance → Type 0
HasUniqueLabels inst = (a b : By) (label : List ℕ) (urgency other : ℕ) (needs named : List Named)
    (text more : List ℕ) → inst.asks a ≡ Some (Submit label urgency needs text)
    → inst.asks b ≡ Some (Submit label other named more) → a ≡ b
