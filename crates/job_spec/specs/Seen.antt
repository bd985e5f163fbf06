-- What is read, seen as its definition has it.
use Rattle.std.specs.Prelude.{◌≡◌, ◌≤◌, ◌<◌, true, length, IsSome, IfSome, Option, Some, None}
use Rattle.std.specs.Borrow.{Bor}
use Rattle.serde_json.specs.Data.{Data}
use Rattle.serde_json.specs.Data as json
use Rattle.serde_json.specs.View.{view}
use Rattle.serde_json.specs.declared.value.Value.{Value}
use Rattle.job_spec.specs.Resources as asked
use Rattle.job_spec.specs.Works as run
use Rattle.job_spec.specs.Limits as limit
use Rattle.job_spec.specs.Sound.{IsCount, AreTasks}
use Rattle.job_spec.specs.declared.resources.Units.{Units}
use Rattle.job_spec.specs.declared.resources.Slots.{Slots}
use Rattle.job_spec.specs.declared.resources.Wanted.{Wanted}
use Rattle.job_spec.specs.declared.works.Work.{Work}
use Rattle.job_spec.specs.declared.limits.Limits.{Limits}

-- a value that may be missing, in which there is nothing then
abbrev pub value_seen : Option (Bor Value) → Data
value_seen None = json.null
value_seen (Some v) = view v.now

abbrev pub units_seen : Units → asked.Units
units_seen u = record { cores = u.cores; gpus = u.gpus }

abbrev pub slots_seen : Slots → asked.Slots
slots_seen s = record { count = s.count; label = s.label.now; units = units_seen s.units }

abbrev pub wanted_seen : Wanted → asked.Wanted
wanted_seen w = record { nodes = w.nodes; exclusive = w.exclusive; slots = slots_seen w.slots }

abbrev pub work_seen : Work → run.Work
work_seen w = record { command = w.command; tasks = w.tasks }

abbrev pub limits_seen : Limits → limit.Limits
limits_seen l = record { duration = l.duration; depends = l.depends }

-- ---- what these keep

pub record AreUnits (u : Units) : Type 0 where
  pub cores : IsCount u.cores
  pub gpus : u.gpus ≤ 65536

pub record AreSlots (s : Slots) : Type 0 where
  pub count : IsCount s.count
  pub units : AreUnits s.units

pub record IsWanted (w : Wanted) : Type 0 where
  pub nodes : IfSome w.nodes IsCount
  pub exclusive : w.exclusive ≡ true → IsSome w.nodes
  pub slots : AreSlots w.slots

pub record IsWork (w : Work) : Type 0 where
  pub command : 0 < length w.command
  pub tasks : AreTasks w.tasks
