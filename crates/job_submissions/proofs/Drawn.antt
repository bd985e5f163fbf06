-- The numbers of a submission that waits are within their bits.
use Rattle.std.proofs.Common.{◌≡◌, ℕ, zero, suc, ◌<◌, ◌≤◌, ◌^◌, ◌&&◌, true, List, [], ◌∷◌, length, ap₂, arith}
use Rattle.std.specs.Prelude.{Some, Contains, slice_index}
use Rattle.instance_rules.specs.Desks.{is_submission}
use Rattle.job_commands.specs.Agrees.{AreDrawn}
use Rattle.job_commands.specs.Asks.{told}
use Rattle.job_commands.specs.Rows.{AreMarkedBy, CommandsValue, is_submit, is_waiting}
use Rattle.job_commands.specs.declared.ask.JobAsk.{JobAsk}
use Rattle.job_commands.specs.declared.ask.JobAsk.TheVariants as ask
use Rattle.job_commands.specs.declared.ask.Named.{Named}
use Rattle.job_commands.specs.declared.row.Row.{Row}
use Rattle.job_commands.specs.declared.row.Stage.TheVariants as stage

within : (xs : List ℕ) (i : ℕ) → 0 < slice_index xs i → i < length xs
within [] i e = absurd (let none : 0 < 0 = e in omega arith)
within (x ∷ xs) zero e = omega arith
within (x ∷ xs) (suc i) e = let more = within xs i e in omega arith

pub submits-now : (row : Row) (label : List ℕ) (urgency : ℕ) (named : List Named) (text : List ℕ) → row.stage ≡ stage.Waits → row.ask ≡ ask.Submit label urgency named text → is_submit row ≡ true
submits-now row label urgency named text waits asks = ap₂ (λ s (a : JobAsk). is_waiting s && is_submission (Some (told a))) waits asks

module _ (v : CommandsValue) (birth : ℕ) (d : AreDrawn v birth) (row : Row) (known : Contains v.rows row) (submits : is_submit row ≡ true) where
  pub rank-small : length v.issued ≤ 2 ^ 14 → row.rank < 2 ^ 14
  rank-small short = let low = (d.rows row known submits).below in let w = within v.issued row.rank (omega (arith, low)) in omega (arith, w, short)

  pub since-birth : birth ≤ row.issued
  since-birth = (d.rows row known submits).since

  -- the second of the issue isn't later than a second that is no earlier than the marks
  pub no-later : (now : ℕ) → AreMarkedBy v now → row.issued ≤ now
  no-later now marked = let a = (d.rows row known submits).marked in let b = marked row.rank in omega (arith, a, b)

  pub sequence-small : row.sequence < 2 ^ 10
  sequence-small = let low = (d.rows row known submits).below in let few = d.few row.rank in omega (arith, low, few)
