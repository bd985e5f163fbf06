-- What is found for a job of the manager's own, where no command may be carried out.
use Rattle.std.proofs.Common.{Option, Some, None}
use Rattle.std.specs.List.{AllByRecursion as Each}
use Rattle.job_rules.proofs.Among.{among_from, each_at}
use Rattle.std.specs.Prelude.{Contains}
use Rattle.manager_rules.specs.declared.asked.Asked.{Asked}
use Rattle.manager_rules.specs.Deeds.{Deed, Validates, Adds, Removes, Loses, Depends, Restarts, Prioritizes, NeverFits, Takes, Starts, Finishes, Expires, Stops, Releases, Frees, Cleans, Carries}
use Rattle.manager_rules.specs.declared.due.Due.{Due}
use Rattle.manager_rules.specs.Due.{IsDue, MayCarry, MayDo}
use Rattle.manager_rules.specs.Jobs.{StoredJob}
use Rattle.manager_rules.specs.Scene.{Scene}
use Rattle.job_deeds.specs.Actions.{Finds}
use Rattle.job_deeds.specs.Choices.{Chooses}
use Rattle.job_deeds.specs.declared.action.Action.{Action}

pub chosen : (s : Scene) (j : StoredJob) (found : Option Action) → Finds s j found → ((asked : Asked) → Contains s.asked asked → MayCarry j asked → ⊥) → Chooses s j found
chosen s j (Some action) finds none = finds
chosen s j None finds none = at
  where
    at : (deed : Deed) → MayDo s j deed → ⊥
    at Validates m = finds Validates tt m
    at (Adds need) m = finds (Adds need) tt m
    at (Removes need) m = finds (Removes need) tt m
    at (Loses need) m = finds (Loses need) tt m
    at Depends m = finds Depends tt m
    at Restarts m = finds Restarts tt m
    at (Prioritizes priority) m = finds (Prioritizes priority) tt m
    at NeverFits m = finds NeverFits tt m
    at (Takes r) m = finds (Takes r) tt m
    at Starts m = finds Starts tt m
    at (Finishes status) m = finds (Finishes status) tt m
    at Expires m = finds Expires tt m
    at Stops m = finds Stops tt m
    at Releases m = finds Releases tt m
    at Frees m = finds Frees tt m
    at Cleans m = finds Cleans tt m
    at (Carries asked) m = none asked m.0 m.1

-- where nothing is due for each of the jobs, nothing is
pub none_due : (s : Scene) → Each (λ j. (deed : Deed) → MayDo s j deed → ⊥) s.jobs → (due : Due) → IsDue s due → ⊥
none_due s each due is = each_at (λ j. (deed : Deed) → MayDo s j deed → ⊥) s.jobs is.j each (among_from s.jobs is.j is.known) is.deed is.may
