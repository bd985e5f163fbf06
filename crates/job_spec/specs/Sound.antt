-- What a jobspec that is read keeps.
use Rattle.std.specs.Prelude.{◌≡◌, ◌≤◌, ◌<◌, ℕ, true, length, IsSome, IfSome}
use Rattle.job_spec.specs.declared.spec.JobSpec.{JobSpec}
use Rattle.job_spec.specs.declared.spec.Tasks.{Tasks}
use Rattle.job_spec.specs.declared.spec.Tasks.TheVariants.{PerSlot, Total}

-- a count of a jobspec
abbrev pub IsCount : ℕ → Type 0
IsCount n = (1 ≤ n) × (n ≤ 65536)

abbrev pub AreTasks : Tasks → Type 0
AreTasks (PerSlot n) = IsCount n
AreTasks (Total n) = IsCount n

-- a jobspec of version 1
pub record IsSpec (spec : JobSpec) : Type 0 where
  pub nodes : IfSome spec.nodes IsCount
  pub exclusive : spec.exclusive ≡ true → IsSome spec.nodes
  pub slots : IsCount spec.slots
  pub cores : IsCount spec.cores
  pub gpus : spec.gpus ≤ 65536
  pub command : 0 < length spec.command
  pub tasks : AreTasks spec.tasks
  pub text : length spec.text ≤ 65536
