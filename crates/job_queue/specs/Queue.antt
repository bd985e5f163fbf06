-- The queue: jobs with their priorities, and who is first.
use Rattle.std.specs.Prelude.{◌≡◌, ℕ, ◌<◌, ◌≤◌, ◌==◌, ◌⊎◌, List, Option, Some, cond}
use Rattle.std.specs.Ordering.{nat_cmp}
use Rattle.std.specs.BTreeMap.{is_at}
use Rattle.std.specs.Map.{lookup}

-- a job's priority; none where it isn't in the queue
abbrev pub priority_of : List (ℕ × ℕ) → ℕ → Option ℕ
priority_of jobs id = lookup (is_at (nat_cmp id)) jobs

-- the job has this priority afterwards (none: it is out of the queue), and each other one keeps its
-- own
abbrev pub Changes : List (ℕ × ℕ) → List (ℕ × ℕ) → ℕ → Option ℕ → Type 0
Changes old new id priority = (other : ℕ)
    → priority_of new other ≡ cond (id == other) priority (priority_of old other)

-- the job goes before each: by greater priority, then by smaller id
abbrev pub IsHead : List (ℕ × ℕ) → ℕ → Type 0
IsHead jobs id = (p : ℕ) × (priority_of jobs id ≡ Some p) × (0 < p)
    × ((other q : ℕ) → priority_of jobs other ≡ Some q → (q < p) ⊎ ((q ≡ p) × (id ≤ other)))

-- each job has priority 0, so that none may go
abbrev pub AreHeld : List (ℕ × ℕ) → Type 0
AreHeld jobs = (id p : ℕ) → priority_of jobs id ≡ Some p → p ≡ 0
