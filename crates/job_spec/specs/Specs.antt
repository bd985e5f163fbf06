-- The jobspec of a text (Flux RFC 14 and 25, version 1): its parts in the order in which they are
-- read.
use Rattle.std.specs.Prelude.{◌==◌, ℕ, nat_le, List, Bool, false, option_and_then, Result, Ok, Err, codes, length}
use Rattle.std.specs.Option.{option_map_or}
use Rattle.serde_json.specs.Data.{Data}
use Rattle.serde_json.specs.Find.{get}
use Rattle.fl_json.specs.Reading.{reading}
use Rattle.fl_json.specs.declared.faults.JsonFault.{JsonFault}
use Rattle.fl_json.specs.declared.faults.JsonFault.TheVariants as json
use Rattle.job_spec.specs.declared.faults.SpecFault.{SpecFault}
use Rattle.job_spec.specs.declared.faults.SpecFault.TheVariants.{NoMemory, NotJson, BadVersion, TooLarge}
use Rattle.job_spec.specs.declared.spec.JobSpec.{JobSpec}
use Rattle.job_spec.specs.Fields.{◌>>=◌, unless, as_natural}
use Rattle.job_spec.specs.Resources.{wanted_of}
use Rattle.job_spec.specs.Works.{work_of}
use Rattle.job_spec.specs.Limits.{limits_of}

abbrev pub is_version_1 : Data → Bool
is_version_1 d =
    option_map_or (λ n. n == 1) (option_and_then as_natural (get (codes "version") d)) false

-- the jobspec that the value of a text tells, or the first fault
unfoldable pub spec_of : List ℕ → Data → Result JobSpec SpecFault
spec_of text d = do
  _ ← unless BadVersion (is_version_1 d)
  wanted ← wanted_of d
  work ← work_of wanted.slots.label d
  limits ← limits_of d
  Ok (record {
    nodes = wanted.nodes;
    exclusive = wanted.exclusive;
    slots = wanted.slots.count;
    cores = wanted.slots.units.cores;
    gpus = wanted.slots.units.gpus;
    command = work.command;
    tasks = work.tasks;
    duration = limits.duration;
    depends = limits.depends;
    text = text;
  })

-- the value of a text, or why it has none
abbrev pub value_of : Result Data JsonFault → Result Data SpecFault
value_of (Ok d) = Ok d
value_of (Err fault) = Err (NotJson fault)

-- the fault of a call that finds this one
abbrev pub fault_of : JsonFault → SpecFault
fault_of json.NoMemory = NoMemory
fault_of (json.BadNumber place) = NotJson (json.BadNumber place)
fault_of json.NotJson = NotJson json.NotJson
fault_of json.Missing = NotJson json.Missing
fault_of json.WrongKind = NotJson json.WrongKind

-- the jobspec of a text, or its first fault
unfoldable pub spec_reading : List ℕ → Result JobSpec SpecFault
spec_reading text = do
  _ ← unless TooLarge (nat_le (length text) 65536)
  d ← value_of (reading text)
  spec_of text d
