-- The jobs that aren't over.
use Rattle.std.specs.Prelude.{◌≡◌, ◌==◌, ◌&&◌, ℕ, List, Bool, Contains, not, filter, map, if◌then◌else◌}
use Rattle.std.specs.List.{AllByRecursion as Each}
use Rattle.job_deeds.specs.manager_rules.declared.asked.Asked.{Asked}
use Rattle.job_deeds.specs.manager_rules.Dependencies.{is_inactive}
use Rattle.job_deeds.specs.manager_rules.Jobs.{StoredJob, ids_of}
use Rattle.job_deeds.specs.manager_rules.Scene.{has_child}
use Rattle.job_book.specs.Seconds.{is_parent}
use Rattle.job_book.specs.Waking.{Sleeps}
use Rattle.job_book.specs.declared.active.Active.{Active}

abbrev pub is_active : StoredJob → Bool
is_active j = not (is_inactive j.job)

abbrev pub active_of : List StoredJob → List StoredJob
active_of jobs = filter is_active jobs

abbrev pub ids_in : List Active → List ℕ
ids_in list = map (λ a. a.id) list

-- those that aren't over
abbrev pub AreActive : List StoredJob → List Active → Type 0
AreActive jobs list = ids_in list ≡ ids_of (active_of jobs)

-- what is kept of a job
pub record IsEntryOf (j : StoredJob) (a : Active) : Type 0 where
  pub asleep : Sleeps j a.wake
  pub parent : a.parent ≡ is_parent j

-- what is kept of the jobs by their ids
abbrev pub AreEntriesOf : List StoredJob → List Active → Type 0
AreEntriesOf jobs list =
    Each (λ a. (j : StoredJob) → Contains jobs j → j.id ≡ a.id → IsEntryOf j a) list

-- a job that has another entry
abbrev pub with_entry : Active → List Active → List Active
with_entry entry list = map (λ a. if a.id == entry.id then entry else a) list

-- those once an event of a job has landed: it is over, or has this entry
abbrev pub follow_with : Active → Bool → List Active → List Active
follow_with entry over list =
    if over then filter (λ other. not (other.id == entry.id)) list else with_entry entry list

-- a job that has had no child, and is to have one
abbrev pub is_to_bear : List Asked → Active → Bool
is_to_bear asked a = a.parent && not (has_child asked a.id)
