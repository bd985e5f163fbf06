-- The rows of open commands, and the labels.
use Rattle.std.specs.Prelude.{◌≡◌, ℕ, ◌-◌, ◌<◌, ◌≤◌, ◌==◌, ◌&&◌, List, Bool, true, false, Option, Some, length, slice_index, slice_index_or, if◌then◌else◌}
use Rattle.std.specs.Map.{lookup}
use Rattle.std.specs.Str.{bytes_eq}
use Rattle.kvs_rules.specs.Log.{same_command}
use Rattle.kvs_txn.specs.declared.txn.By.{By}
use Rattle.instance_rules.specs.Desks.{is_submission}
use Rattle.job_commands.specs.Asks.{told}
use Rattle.job_commands.specs.declared.ask.JobAsk.{JobAsk}
use Rattle.job_commands.specs.declared.child.Child.{Child}
use Rattle.job_commands.specs.declared.row.Row.{Row}
use Rattle.job_commands.specs.declared.row.Stage.{Stage}
use Rattle.job_commands.specs.declared.row.Stage.TheVariants as stage
use Rattle.job_commands.specs.declared.tally.Mark.{Mark}

abbrev pub Labels : Type 0
Labels = List (List ℕ × ℕ)

-- open commands, the labels that name jobs with the ids of these, how many submissions were
-- issued at each broker, the marks of the brokers, and the children that jobs have had
pub record CommandsValue : Type 0 where
  pub labels : Labels
  pub rows : List Row
  pub issued : List ℕ
  pub marks : List Mark
  pub children : List Child

-- the job that a label names
abbrev pub job_at : List ℕ → Labels → Option ℕ
job_at label labels = lookup (bytes_eq label) labels

abbrev pub is_of : By → Row → Bool
is_of by row = same_command by row.by

abbrev pub is_waiting : Stage → Bool
is_waiting stage.Waits = true
is_waiting (stage.Landed number) = false

-- a submission that no landing has carried out
abbrev pub is_submit : Row → Bool
is_submit row = is_waiting row.stage && is_submission (Some (told row.ask))

-- ---- sequence numbers

-- the mark of a broker at which no submission was issued
abbrev pub unmarked : Mark
unmarked = record { second = 0; count = 0 }

abbrev pub mark_at : List Mark → ℕ → Mark
mark_at marks rank = slice_index_or marks rank unmarked

-- no mark is later than this second
abbrev pub AreMarkedBy : CommandsValue → ℕ → Type 0
AreMarkedBy v now = (rank : ℕ) → (mark_at v.marks rank).second ≤ now

-- the mark of a broker, where so many submissions were issued, for one at this second
abbrev pub mark_now : Mark → ℕ → ℕ → Mark
mark_now mark issued now = if mark.second == now then mark
    else record { second = now; count = issued }

-- how many submissions were issued at a broker in this second
abbrev pub sequence_now : CommandsValue → ℕ → ℕ → ℕ
sequence_now v rank now = slice_index v.issued rank
    - (mark_now (mark_at v.marks rank) (slice_index v.issued rank) now).count

-- ---- changes

-- the row of a command that is issued now
abbrev pub issued_row : CommandsValue → By → ℕ → ℕ → JobAsk → Row
issued_row v by rank now asks = record {
  by = by;
  rank = rank;
  ask = asks;
  issued = now;
  sequence = sequence_now v rank now;
  stage = stage.Waits;
}

-- a row, once the landing of this number has carried out a command
abbrev pub carried : By → ℕ → Row → Row
carried by number row = if is_of by row then record row { stage = stage.Landed number } else row

pub record AreCarried (by : By) (number : ℕ) (old new : List Row) : Type 0 where
  pub same_len : length new ≡ length old
  pub each : (k : ℕ) (d : Row) → k < length old
      → slice_index_or new k d ≡ carried by number (slice_index_or old k d)
