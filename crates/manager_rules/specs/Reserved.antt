-- The second that is reserved for a job: the least at which what live jobs leave then satisfies it.
use Rattle.std.specs.Prelude.{ℕ, ◌≤◌, ◌<◌, ◌==◌, ◌||◌, nat_lt, Bool, List, Option, Some, None, filter_map, option_and_then, if◌then◌else◌}
use Rattle.job_rules.specs.declared.hold.Hold.{Hold}
use Rattle.job_rules.specs.Fits.{CanFit, free_of}
use Rattle.job_spec.specs.declared.spec.JobSpec.{JobSpec}
use Rattle.resource_set.specs.declared.node.Node.{Node}
use Rattle.resource_set.specs.declared.node.Resources.{Resources}
use Rattle.manager_rules.specs.Jobs.{StoredJob}

-- whether resources are held at a second: they have no end, or end later
abbrev pub is_held_at : ℕ → Resources → Bool
is_held_at second r = (r.expiration == 0) || nat_lt second r.expiration

-- what a job holds at a second, if it is live and its resources don't end before
abbrev pub held_by : ℕ → ℕ → Resources → Option Hold
held_by second id r =
    if is_held_at second r then Some (record { id = id; nodes = r.nodes }) else None

abbrev pub hold_at : ℕ → StoredJob → Option Hold
hold_at second j = option_and_then (held_by second j.id) j.r

abbrev pub holds_at : ℕ → List StoredJob → List Hold
holds_at second jobs = filter_map (hold_at second) jobs

-- some of the units that live jobs leave at a second satisfy the job
abbrev pub FitsAt : List Node → List StoredJob → JobSpec → ℕ → Type 0
FitsAt grant jobs spec second = CanFit spec grant (free_of grant (holds_at second jobs))

-- the least second from now on at which the job fits
pub record IsReserved (grant : List Node) (jobs : List StoredJob)
    (spec : JobSpec) (now second : ℕ) : Type 0 where
  pub from : now ≤ second
  pub fits : FitsAt grant jobs spec second
  pub least : (sooner : ℕ) → now ≤ sooner → sooner < second → FitsAt grant jobs spec sooner → ⊥
