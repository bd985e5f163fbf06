-- When live jobs stand well in a grant.
use Rattle.std.specs.Prelude.{◌≡◌, List, Bool, true, false, None, IsSome, IfSome, filter_map, option_map}
use Rattle.std.specs.List.{AllByRecursion as Each}
use Rattle.std.specs.List.Sorted.{IsStrictlyIncreasing}
use Rattle.std.specs.Prelude.{Option}
use Rattle.job_rules.specs.declared.hold.Hold.{Hold}
use Rattle.job_rules.specs.Fits.{AreLive, Satisfies, IsUnitSet}
use Rattle.job_states.specs.declared.job.Job.{Job}
use Rattle.job_states.specs.declared.job.State.{State}
use Rattle.job_states.specs.declared.job.State.TheVariants as state
use Rattle.kvs_model.specs.Store.{Store}
use Rattle.resource_set.specs.declared.node.Node.{Node}
use Rattle.manager_rules.specs.Jobs.{StoredJob, AreJobsOf, ids_of, is_live}

-- what a job holds, if it is live
abbrev pub hold_of : StoredJob → Option Hold
hold_of j = option_map (λ r. record { id = j.id; nodes = r.nodes }) j.r

abbrev pub holds_of : List StoredJob → List Hold
holds_of jobs = filter_map hold_of jobs

-- a job with resources while it is live, which satisfy it
pub record IsServed (grant : List Node) (j : StoredJob) : Type 0 where
  pub has : is_live j.job ≡ true → IsSome j.r
  pub satisfied : IfSome j.r (λ r. IsUnitSet r.nodes × Satisfies j.spec grant r.nodes)

-- live jobs have satisfying units of the grant, no two of them one in common
pub record IsSound (grant : List Node) (jobs : List StoredJob) : Type 0 where
  pub served : Each (IsServed grant) jobs
  pub apart : AreLive grant (holds_of jobs)

-- a store whose logs replay, and whose live jobs stand well in the grant
pub record IsSoundStore (grant : List Node) (st : Store) : Type 0 where
  pub jobs : List StoredJob
  pub are : AreJobsOf st jobs
  pub sound : IsSound grant jobs

-- ---- when a job may have resources

-- the states before RUN
abbrev pub is_early : State → Bool
is_early state.New = true
is_early state.Depend = true
is_early state.Priority = true
is_early state.Sched = true
is_early state.Run = false
is_early state.Cleanup = false
is_early state.Inactive = false

-- neither given resources nor freed of them
pub record IsUnserved (job : Job) : Type 0 where
  pub allocated : job.allocated ≡ false
  pub freed : job.freed ≡ false

-- before RUN a job has had no resources, and it has none unless it is live
pub record HoldsInTime (j : StoredJob) : Type 0 where
  pub early : is_early j.job.state ≡ true → IsUnserved j.job
  pub none : is_live j.job ≡ false → j.r ≡ None

-- jobs by id that hold no resources before or after their time
pub record AreInTime (jobs : List StoredJob) : Type 0 where
  pub rising : IsStrictlyIncreasing (ids_of jobs)
  pub each : Each HoldsInTime jobs
