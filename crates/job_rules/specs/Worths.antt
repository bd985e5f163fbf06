-- What hosts bring to a job, and how much of it the job asks for.
use Rattle.std.specs.Prelude.{ℕ, ◌+◌, List, [], ◌∷◌, Option, Some, None, unwrap_or, if◌then◌else◌}
use Rattle.job_spec.specs.declared.spec.JobSpec.{JobSpec}
use Rattle.resource_set.specs.declared.node.Node.{Node}
use Rattle.job_rules.specs.Fits.{given_by, lowest, room_on, serves}

abbrev pub worth_as : Option ℕ → JobSpec → List Node → Node → ℕ
worth_as None spec grant node = room_on spec node
worth_as (Some count) spec grant node = if serves spec grant node then 1 else 0

-- slots with room, or the host itself where the job asks for hosts and it serves
abbrev pub worth : JobSpec → List Node → Node → ℕ
worth spec grant node = worth_as spec.nodes spec grant node

-- slots, or hosts
abbrev pub wanted : JobSpec → ℕ
wanted spec = unwrap_or spec.nodes spec.slots

-- a sum over a list
abbrev pub total : {A : Type 0} → (A → ℕ) → List A → ℕ
total w [] = 0
total w (x ∷ xs) = w x + total w xs

-- the units that a host gives for so many slots, or as one of the hosts
abbrev pub give_as : Option ℕ → JobSpec → ℕ → Node → Node
give_as None spec here node = lowest spec here node
give_as (Some count) spec here node = given_by spec node
