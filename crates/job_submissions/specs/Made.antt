-- Submissions that are due, as they are made of open commands.
use Rattle.std.specs.Prelude.{◌≡◌, ℕ, ◌≤◌, List, Some, Ok, Contains, codes}
use Rattle.serde_json.specs.Data.{no_members}
use Rattle.event_log.specs.declared.event.Event.{Event}
use Rattle.job_spec.specs.declared.spec.Depend.{Depend}
use Rattle.job_spec.specs.declared.spec.JobSpec.{JobSpec}
use Rattle.job_spec.specs.Specs.{spec_reading}
use Rattle.job_commands.specs.Agrees.{id_at}
use Rattle.job_commands.specs.Desks.{needs_of}
use Rattle.job_commands.specs.Rows.{CommandsValue, Labels, job_at}
use Rattle.job_commands.specs.declared.ask.JobAsk.TheVariants as ask
use Rattle.job_commands.specs.declared.ask.Named.{Named}
use Rattle.job_commands.specs.declared.row.Row.{Row}
use Rattle.job_commands.specs.declared.row.Stage.TheVariants as stage
use Rattle.manager_rules.specs.Deeds.{event_with, number_member}
use Rattle.manager_rules.specs.Jobs.{AreNeeds, StoredJob, ids_of}
use Rattle.manager_rules.specs.Limits.{verdict_of}
use Rattle.manager_rules.specs.Posts.{Submission, depends_member}
use Rattle.manager_rules.specs.declared.terms.Limits.{Limits}
use Rattle.job_submissions.specs.Faults.{AreKnown}

-- the text is this accepted jobspec, no limit turns it away, the labels name these dependencies,
-- and all are on jobs
pub record IsAccepted (limits : Limits) (labels : Labels) (jobs : List StoredJob)
    (named : List Named) (text : List ℕ) (spec : JobSpec) (needs : List Depend) : Type 0 where
  pub reads : spec_reading text ≡ Ok spec
  pub passed : verdict_of limits spec ≡ 0
  pub names : needs_of labels named ≡ Some needs
  pub depends : AreKnown jobs spec.depends
  pub known : AreKnown jobs needs

-- the event by which this user submits a job
abbrev pub begun_event : ℕ → ℕ → ℕ → List Depend → Event
begun_event now userid urgency needs = event_with now (codes "submit")
    (depends_member needs (number_member (codes "flags") 0
    (number_member (codes "urgency") urgency (number_member (codes "userid") userid
    (number_member (codes "version") 1 no_members)))))

-- the command of the row asks to submit this, and waits
pub record Submits (row : Row) (urgency : ℕ) (named : List Named) (text : List ℕ) : Type 0 where
  pub waits : row.stage ≡ stage.Waits
  pub label : List ℕ
  pub asks : row.ask ≡ ask.Submit label urgency named text

-- the submission has these parts, of which the id is that of the second of the command's issue
pub record IsBuilt (now birth : ℕ) (row : Row) (urgency : ℕ) (needs : List Depend) (text : List ℕ)
    (spec : JobSpec) (x : Submission) : Type 0 where
  pub early : row.issued ≤ now
  pub id : x.id ≡ id_at birth row.rank row.issued row.sequence
  pub told : x.text ≡ text
  pub read : x.spec ≡ spec
  pub event : x.event ≡ begun_event now row.by.actor urgency needs
  pub all : (every : List Depend) → AreNeeds spec x.event every → x.needs ≡ every
  pub command : x.command ≡ row.by

-- the submission is made of the row at this second, in an instance that was born at another
pub record IsMadeOf (limits : Limits) (labels : Labels) (jobs : List StoredJob) (now birth : ℕ)
    (row : Row) (x : Submission) : Type 0 where
  pub urgency : ℕ
  pub named : List Named
  pub needs : List Depend
  pub text : List ℕ
  pub spec : JobSpec
  pub submits : Submits row urgency named text
  pub accepted : IsAccepted limits labels jobs named text spec needs
  pub built : IsBuilt now birth row urgency needs text spec x

-- the row submits nothing that is accepted
abbrev pub MakesNone : Limits → Labels → List StoredJob → Row → Type 0
MakesNone limits labels jobs row = (urgency : ℕ) (named : List Named) (text : List ℕ) (spec : JobSpec)
    (needs : List Depend) → Submits row urgency named text
    → IsAccepted limits labels jobs named text spec needs → ⊥

-- the submission is made of one of the open commands
pub record IsMade (limits : Limits) (v : CommandsValue) (jobs : List StoredJob) (now birth : ℕ)
    (x : Submission) : Type 0 where
  pub row : Row
  pub stands : Contains v.rows row
  pub made : IsMadeOf limits v.labels jobs now birth row x

-- each job has a label
abbrev pub AreLabelled : Labels → List StoredJob → Type 0
AreLabelled labels jobs = (id : ℕ) → Contains (ids_of jobs) id
    → (label : List ℕ) × (job_at label labels ≡ Some id)
