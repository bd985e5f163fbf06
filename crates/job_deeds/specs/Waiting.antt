-- The queue: each job with the priority with which it waits for resources.
use Rattle.std.specs.Prelude.{◌≡◌, ℕ, List, Option, Some, None, Contains, IsSome, option_map, unwrap_or, if◌then◌else◌}
use Rattle.job_queue.specs.Queue.{priority_of}
use Rattle.job_states.specs.Table.{is_state}
use Rattle.job_states.specs.declared.job.Job.{Job}
use Rattle.job_states.specs.declared.job.State.TheVariants as state
use Rattle.manager_rules.specs.Dependencies.{IsHead, job_at}
use Rattle.manager_rules.specs.Jobs.{StoredJob}

-- the priority with which a job waits, or 0
abbrev pub rank_of : Job → ℕ
rank_of job = if is_state job.state state.Sched then unwrap_or job.priority 0 else 0

abbrev pub waits_with : StoredJob → ℕ
waits_with j = rank_of j.job

-- each job stands there with its own
abbrev pub IsQueueOf : List StoredJob → List (ℕ × ℕ) → Type 0
IsQueueOf jobs queue =
    (id : ℕ) → priority_of queue id ≡ option_map waits_with (job_at jobs id)

-- the first in the queue, if a job waits with a priority above 0
abbrev pub IsFirstOf : List StoredJob → Option ℕ → Type 0
IsFirstOf jobs None = (j : StoredJob) → Contains jobs j → waits_with j ≡ 0
IsFirstOf jobs (Some id) = IsHead jobs id

-- a job that waits for resources has a priority
abbrev pub IsRanked : StoredJob → Type 0
IsRanked j = j.job.state ≡ state.Sched → IsSome j.job.priority
