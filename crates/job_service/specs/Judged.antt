-- Submissions that wait: each was refused at its issue, or is accepted.
use Rattle.std.specs.Prelude.{◌≡◌, ◌⊎◌, ℕ, List, Contains}
use Rattle.job_commands.specs.Rows.{CommandsValue, Labels}
use Rattle.job_commands.specs.declared.ask.Named.{Named}
use Rattle.job_commands.specs.declared.row.Row.{Row}
use Rattle.job_deeds.specs.job_spec.declared.spec.Depend.{Depend}
use Rattle.job_deeds.specs.job_spec.declared.spec.JobSpec.{JobSpec}
use Rattle.job_submissions.specs.Made.{IsAccepted, Submits}
use Rattle.job_deeds.specs.kvs_txn.declared.txn.By.{By}
use Rattle.job_deeds.specs.manager_rules.Jobs.{StoredJob}
use Rattle.job_deeds.specs.manager_rules.declared.terms.Limits.{Limits}
use Rattle.job_service.specs.declared.refusals.Refused.{Refused}

-- the command was refused
pub record WasRefused (list : List Refused) (by : By) : Type 0 where
  pub one : Refused
  pub known : Contains list one
  pub named : one.by ≡ by

-- the text tells an accepted jobspec that no limit turns away, and all dependencies are on jobs
pub record CanBeMade (limits : Limits) (labels : Labels) (jobs : List StoredJob)
    (named : List Named) (text : List ℕ) : Type 0 where
  pub spec : JobSpec
  pub needs : List Depend
  pub accepted : IsAccepted limits labels jobs named text spec needs

-- each submission that waits was refused at its issue, or is accepted
abbrev pub AreJudged : Limits → CommandsValue → List StoredJob → List Refused → Type 0
AreJudged limits v jobs list = (row : Row) (urgency : ℕ) (named : List Named) (text : List ℕ)
    → Contains v.rows row
    → Submits row urgency named text → WasRefused list row.by ⊎ CanBeMade limits v.labels jobs named
    text
