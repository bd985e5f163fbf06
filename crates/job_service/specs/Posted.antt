-- What is posted, and what is found to be posted next.
use Rattle.std.specs.Prelude.{◌≡◌, ℕ, Option, Some, None}
use Rattle.job_commands.specs.Agrees.{IsIdOf}
use Rattle.job_commands.specs.Rows.{CommandsValue}
use Rattle.job_deeds.specs.manager_rules.Posts.{Does, Post, Submits}

-- where something is posted, nothing is found besides
abbrev pub IsAlone : Option Post → Option Post → Type 0
IsAlone (Some post) found = found ≡ None
IsAlone None found = Unit {0}

-- a submission has the id that was made for its command, in an instance that was born at this
-- second
abbrev pub IsNamed : CommandsValue → ℕ → Option Post → Type 0
IsNamed v birth (Some (Submits x)) = IsIdOf v birth x.command x.id
IsNamed v birth (Some (Does due)) = Unit {0}
IsNamed v birth None = Unit {0}

-- the id of the job that is submitted, if a submission is posted
abbrev pub id_posted : Option Post → Option ℕ
id_posted (Some (Submits x)) = Some x.id
id_posted (Some (Does due)) = None
id_posted None = None
