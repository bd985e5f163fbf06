-- What is kept of the jobs of an instance that is followed.
use Rattle.std.specs.Prelude.{◌≡◌, ◌<◌, ◌^◌, ℕ, ◌==◌, ◌||◌, List, Bool, false, not, Option, Some, None, Ok, Contains, filter, length, map, option_map, if◌then◌else◌}
use Rattle.std.specs.List.{list_any}
use Rattle.std.specs.Option.{option_map_or}
use Rattle.std.specs.Result.{result_ok}
use Rattle.std.specs.List.Sorted.{IsStrictlyIncreasing}
use Rattle.job_states.specs.Changes.{change_of}
use Rattle.job_states.specs.Replay.{begun}
use Rattle.job_states.specs.declared.job.Job.{Job}
use Rattle.event_log.specs.Events.{IsEvent, line_text}
use Rattle.event_log.specs.declared.event.Event.{Event}
use Rattle.manager_rules.specs.Jobs.{StoredJob, ids_of, is_live}
use Rattle.manager_rules.specs.Posts.{Does, Post, Submits, job_after}
use Rattle.resource_set.specs.Reading.{told}
use Rattle.idset.specs.Ids.{has}
use Rattle.resource_set.specs.Units.{units_of_node}
use Rattle.resource_set.specs.declared.node.Node.{Node}
use Rattle.run_picture.specs.Cells.{is_at}
use Rattle.run_picture.specs.declared.jobs.JobRow.{JobRow}
use Rattle.run_picture.specs.declared.picture.HostUnit.{HostUnit}
use Rattle.run_picture.specs.declared.picture.Place.{Place}

-- a job as it is kept: what its log says so far, and its hosts while it is live
pub record Known : Type 0 where
  pub id : ℕ
  pub job : Job
  pub held : Option (List Node)

abbrev pub known_in : JobRow → Known
known_in row = record { id = row.id; job = row.job; held = row.held }

abbrev pub known_of : StoredJob → Known
known_of j = record { id = j.id; job = j.job; held = option_map (λ r. r.nodes) j.r }

-- the rows keep these jobs
abbrev pub AreRowsOf : List JobRow → List StoredJob → Type 0
AreRowsOf rows jobs = map known_in rows ≡ map known_of jobs

-- whether a host has the unit, or one at all
abbrev pub has_unit : Option HostUnit → Node → Bool
has_unit None node = not (length node.cores == 0) || not (length node.gpus == 0)
has_unit (Some unit) node = has (if unit.is_gpu then node.gpus else node.cores) unit.id

-- whether the job of a row has a unit at the place
abbrev pub holds_in : Place → JobRow → Bool
holds_in place row =
    option_map_or (λ nodes. list_any (λ node. list_any (is_at place) (units_of_node node)) nodes)
    row.held false

-- the ids of those that have one
abbrev pub cell_of : List JobRow → Place → List ℕ
cell_of rows place = map (λ row. row.id) (filter (holds_in place) rows)

-- what a job holds behind an event, with which this text may be put
abbrev pub held_then : Job → Option (List Node) → Option (List ℕ) → Option (List Node)
held_then job before None = if is_live job then before else None
held_then job before (Some text) =
    if is_live job then option_map (λ r. r.nodes) (result_ok (told text)) else None

-- a row behind an event of its job
abbrev pub row_after : Event → Option (List ℕ) → JobRow → JobRow
row_after event r row = record row {
  job = job_after (change_of event) row.job;
  held = held_then (job_after (change_of event) row.job) row.held r;
}

-- ---- what lands

abbrev pub row_ids : List JobRow → List ℕ
row_ids rows = map (λ row. row.id) rows

-- a row of a job whose log begins with this line
pub record IsNewRow (id : ℕ) (line : List ℕ) (row : JobRow) : Type 0 where
  pub named : row.id ≡ id
  pub begins : (event : Event) → IsEvent event → line ≡ line_text event → begun event ≡ Ok row.job
  pub none : row.held ≡ None

-- what a post writes tells it again, where these are the jobs: its id and its event have their
-- texts, and a submission's id is new
abbrev pub IsReadable : Post → List StoredJob → Type 0
IsReadable (Submits x) jobs = IsStrictlyIncreasing (ids_of jobs) × (x.id < 2 ^ 64) × IsEvent x.event
    × (Contains (ids_of jobs) x.id → ⊥)
IsReadable (Does due) jobs =
    IsStrictlyIncreasing (ids_of jobs) × (due.job < 2 ^ 64) × IsEvent due.event
