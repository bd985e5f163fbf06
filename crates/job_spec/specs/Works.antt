-- What a jobspec runs: a command, and so many tasks of it.
use Rattle.std.specs.Prelude.{◌==◌, ℕ, List, not, Option, Some, None, Result, Ok, Err, codes, length}
use Rattle.std.specs.Str.{bytes_eq}
use Rattle.serde_json.specs.Data.{Data}
use Rattle.serde_json.specs.Find.{get, as_str, as_object}
use Rattle.job_spec.specs.declared.faults.Place.TheVariants.{Task, Command, Count}
use Rattle.job_spec.specs.declared.faults.SpecFault.{SpecFault}
use Rattle.job_spec.specs.declared.faults.SpecFault.TheVariants.{BadField, BadShape, NoSlot}
use Rattle.job_spec.specs.declared.spec.Tasks.{Tasks}
use Rattle.job_spec.specs.declared.spec.Tasks.TheVariants.{PerSlot, Total}
use Rattle.job_spec.specs.Fields.{◌>>=◌, unless, each, as_any, as_list, of_kind, field, only, count_of}

-- a list of at least one text
unfoldable pub command_of : Data → Result (List (List ℕ)) SpecFault
command_of d = do
  words ← field as_list Command (codes "command") d
  _ ← unless (BadShape Command) (not (length words == 0))
  each (of_kind as_str Command) words

-- one of the two numbers of tasks, and not both
abbrev pub one_number : Option Data → Option Data → Result Tasks SpecFault
one_number None None = Err (BadField Count)
one_number (Some d) None = count_of Count d >>= λ n. Ok (PerSlot n)
one_number None (Some d) = count_of Count d >>= λ n. Ok (Total n)
one_number (Some d) (Some e) = Err (BadField Count)

-- how many tasks there are, from the object that says it
unfoldable pub number_of_tasks : Data → Result Tasks SpecFault
number_of_tasks d = one_number (get (codes "per_slot") d) (get (codes "total") d)

unfoldable pub tasks_of : Data → Result Tasks SpecFault
tasks_of d = field as_any Count (codes "count") d >>= number_of_tasks

-- a command and its tasks
pub record Work : Type 0 where
  pub command : List (List ℕ)
  pub tasks : Tasks

-- the task, which runs in the slot of this label
unfoldable pub task_of : List ℕ → Data → Result Work SpecFault
task_of label d = do
  command ← command_of d
  slot ← field as_str Task (codes "slot") d
  _ ← unless NoSlot (bytes_eq slot label)
  tasks ← tasks_of d
  Ok (record { command = command; tasks = tasks })

unfoldable pub work_of : List ℕ → Data → Result Work SpecFault
work_of label d = do
  tasks ← field as_list Task (codes "tasks") d
  task ← only Task tasks
  _ ← of_kind as_object Task task
  task_of label task
