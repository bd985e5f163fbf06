-- Why submissions are refused.
use Rattle.std.specs.Prelude.{◌≡◌, ◌≢◌, ◌⊎◌, ℕ, Bool, true, false, List, Option, Some, None, Result, Ok, Err, Contains, is_some}
use Rattle.std.specs.List.{AllByRecursion as Each}
use Rattle.job_spec.specs.declared.faults.SpecFault.{SpecFault}
use Rattle.job_spec.specs.declared.spec.Depend.{Depend}
use Rattle.job_spec.specs.declared.spec.JobSpec.{JobSpec}
use Rattle.job_spec.specs.Numbers.{number_of}
use Rattle.job_spec.specs.Specs.{spec_reading}
use Rattle.instance_rules.specs.Log as rules
use Rattle.instance_rules.specs.Log.{Instance, Log}
use Rattle.instance_rules.specs.Replies.{NamesNone}
use Rattle.job_commands.specs.Desks.{needs_of}
use Rattle.job_commands.specs.Rows.{CommandsValue, Labels, job_at}
use Rattle.job_commands.specs.declared.ask.Named.{Named}
use Rattle.manager_rules.specs.Dependencies.{job_at as job_with}
use Rattle.manager_rules.specs.Jobs.{StoredJob, ids_of}
use Rattle.manager_rules.specs.Limits.{verdict_of}
use Rattle.manager_rules.specs.declared.terms.Limits.{Limits}
use Rattle.job_submissions.specs.declared.faults.Fault.{Fault}
use Rattle.job_submissions.specs.declared.faults.Fault.TheVariants as fault

-- the text tells this jobspec, or has a fault of this number
abbrev pub IsReadAs : List ℕ → Result JobSpec ℕ → Type 0
IsReadAs text (Ok spec) = spec_reading text ≡ Ok spec
IsReadAs text (Err number) = (f : SpecFault) × (spec_reading text ≡ Err f)
    × (number_of f ≡ Some number)

-- whether a dependency is on one of the jobs
abbrev pub is_on_job : List StoredJob → Depend → Bool
is_on_job jobs need = is_some (job_with jobs need.on)

-- dependencies on jobs
abbrev pub IsKnown : List StoredJob → Depend → Type 0
IsKnown jobs need = Contains (ids_of jobs) need.on

abbrev pub AreKnown : List StoredJob → List Depend → Type 0
AreKnown jobs needs = Each (IsKnown jobs) needs

-- the label names none of the jobs
abbrev pub LacksLabel : Labels → List StoredJob → Named → Type 0
LacksLabel labels jobs n = (id : ℕ) → job_at n.label labels ≡ Some id
    → Contains (ids_of jobs) id → ⊥

-- whether a dependency of a jobspec, or one on the job of a label, is on none of the jobs
abbrev pub Lacks : Labels → List StoredJob → List Depend → List Named → Bool → Type 0
Lacks labels jobs depends named true =
    ((need : Depend) × Contains depends need × (IsKnown jobs need → ⊥))
    ⊎ ((n : Named) × Contains named n × LacksLabel labels jobs n)
Lacks labels jobs depends named false = AreKnown jobs depends
    × ((needs : List Depend) × (needs_of labels named ≡ Some needs) × AreKnown jobs needs)

-- the same as the rules have it, of what the labels name in a log
abbrev pub LacksSome : Instance → Log → List StoredJob → List Depend → List rules.Named → Type 0
LacksSome inst log jobs depends named =
    ((need : Depend) × Contains depends need × (Contains (ids_of jobs) need.on → ⊥))
    ⊎ ((n : rules.Named) × Contains named n × NamesNone inst log n.label jobs)

-- the submission is refused so, or not
abbrev pub IsVerdict : Limits → CommandsValue → List StoredJob → List Named → List ℕ → Option Fault
    → Type 0
IsVerdict limits v jobs named text None = (spec : JobSpec) × (spec_reading text ≡ Ok spec)
    × (verdict_of limits spec ≡ 0) × Lacks v.labels jobs spec.depends named false
IsVerdict limits v jobs named text (Some (fault.BadSpec number)) = IsReadAs text (Err number)
IsVerdict limits v jobs named text (Some (fault.Checked reason)) = (spec : JobSpec)
    × (spec_reading text ≡ Ok spec) × (verdict_of limits spec ≡ reason) × (reason ≢ 0)
IsVerdict limits v jobs named text (Some fault.NoJob) = (spec : JobSpec)
    × (spec_reading text ≡ Ok spec) × (verdict_of limits spec ≡ 0)
    × Lacks v.labels jobs spec.depends named true
