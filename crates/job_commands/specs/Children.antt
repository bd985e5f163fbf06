-- Children of jobs, and what the log of an instance says of them.
use Rattle.std.specs.Prelude.{◌≡◌, ◌↔◌, ℕ, ◌<◌, ◌==◌, ◌&&◌, List, Bool, true, false, Some, None, Contains, map, length, slice_index_or, if◌then◌else◌}
use Rattle.instance_rules.specs.Log.{Log, Moment, child_of, child_told}
use Rattle.manager_rules.specs.declared.asked.Asked.{Asked}
use Rattle.manager_rules.specs.declared.asked.Asked.TheVariants as asked
use Rattle.job_commands.specs.declared.child.Child.{Child}

-- the child as the manager looks at it
abbrev pub asked_child : Child → Asked
asked_child c = asked.Child c.job c.living c.shut

abbrev pub all_children : List Child → List Asked
all_children children = map asked_child children

-- whether it is a living child of the job
abbrev pub is_living_of : ℕ → Child → Bool
is_living_of job c = c.living && (c.job == job)

-- the children are those of the log
abbrev pub AreChildrenOf : List Child → Log → Type 0
AreChildrenOf children log = (job : ℕ) (living shut : Bool)
    → Contains children (record {
      job = job;
      living = living;
      shut = shut;
    }) ↔ (child_of log job ≡ Some (living, shut))

-- the moment is about no child
abbrev pub LeavesChildren : Moment → Type 0
LeavesChildren m = (job : ℕ) → child_told job m ≡ None

-- ---- changes

-- a child that is born for a job
abbrev pub born_child : ℕ → Child
born_child job = record { job = job; living = true; shut = false }

-- a child, once that of a job has gone
abbrev pub ended : ℕ → Bool → Child → Child
ended job shut c = if c.job == job then record { job = c.job; living = false; shut = shut } else c

pub record AreEnded (job : ℕ) (shut : Bool) (old new : List Child) : Type 0 where
  pub same_len : length new ≡ length old
  pub each : (k : ℕ) (d : Child) → k < length old
      → slice_index_or new k d ≡ ended job shut (slice_index_or old k d)
