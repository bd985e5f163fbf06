-- The names of a jobspec's parts.
use Rattle.std.specs.Prelude.{ℕ, List, codes}
use Rattle.job_spec.specs.declared.faults.Place.{Place}
use Rattle.job_spec.specs.declared.faults.Place.TheVariants.{Resources, Node, Slot, Core, Gpu, Task, Command, Count, Attributes, Duration, Dependencies}

abbrev pub place_name : Place → List ℕ
place_name Resources = codes "Resources"
place_name Node = codes "Node"
place_name Slot = codes "Slot"
place_name Core = codes "Core"
place_name Gpu = codes "Gpu"
place_name Task = codes "Task"
place_name Command = codes "Command"
place_name Count = codes "Count"
place_name Attributes = codes "Attributes"
place_name Duration = codes "Duration"
place_name Dependencies = codes "Dependencies"
