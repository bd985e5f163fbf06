-- Jobs for which nothing is due for a while.
use Rattle.std.specs.Prelude.{◌≡◌, ℕ, ◌<◌, ◌==◌, Bool, false}
use Rattle.std.specs.List.{list_any}
use Rattle.job_deeds.specs.manager_rules.declared.asked.Asked.{Asked}
use Rattle.job_deeds.specs.manager_rules.declared.asked.Asked.TheVariants.{Cancel, Raise, Urgency, Child}
use Rattle.job_deeds.specs.manager_rules.Deeds.{Deed}
use Rattle.job_deeds.specs.manager_rules.Due.{MayDo}
use Rattle.job_deeds.specs.manager_rules.Jobs.{StoredJob}
use Rattle.job_deeds.specs.manager_rules.Scene.{Scene}

-- a command about this job, or a child of it
abbrev pub is_about : ℕ → Asked → Bool
is_about id (Cancel by job) = id == job
is_about id (Raise by job kind severity note) = id == job
is_about id (Urgency by job urgency) = id == job
is_about id (Child job living shut) = id == job

-- nothing is due for the job before this second, while no command and no child is its
abbrev pub Sleeps : StoredJob → ℕ → Type 0
Sleeps j wake =
    (s : Scene) → s.now < wake → list_any (is_about j.id) s.asked ≡ false
    → (deed : Deed) → MayDo s j deed → ⊥
