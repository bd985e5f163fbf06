-- The attributes of a jobspec that the system reads: a duration, and dependencies (Flux RFC 26).
use Rattle.std.specs.Prelude.{ℕ, List, [], Option, Some, None, Result, Ok, Err, codes, if◌then◌else◌}
use Rattle.std.specs.Option.{ok_or}
use Rattle.std.specs.Str.{bytes_eq}
use Rattle.serde_json.specs.Data.{Data}
use Rattle.serde_json.specs.Data as json
use Rattle.serde_json.specs.Find.{get, as_str}
use Rattle.fluid_ids.specs.Texts.{meaning}
use Rattle.fluid_ids.specs.declared.faults.FluidFault.{FluidFault}
use Rattle.job_spec.specs.declared.faults.Place.TheVariants.{Attributes, Duration, Dependencies}
use Rattle.job_spec.specs.declared.faults.SpecFault.{SpecFault}
use Rattle.job_spec.specs.declared.faults.SpecFault.TheVariants.{BadField, BadShape}
use Rattle.job_spec.specs.declared.spec.Scheme.{Scheme}
use Rattle.job_spec.specs.declared.spec.Scheme.TheVariants.{After, AfterAny, AfterOk, AfterNotOk}
use Rattle.job_spec.specs.declared.spec.Depend.{Depend}
use Rattle.job_spec.specs.Fields.{◌>>=◌, each, as_natural, as_list, as_map, field, field_or}

-- an object or null
abbrev pub as_attributes : Data → Option Data
as_attributes json.null = Some json.null
as_attributes (json.boolean b) = None
as_attributes (json.number n) = None
as_attributes (json.string s) = None
as_attributes (json.array ds) = None
as_attributes (json.object ms) = Some (json.object ms)

unfoldable pub attributes_of : Data → Result Data SpecFault
attributes_of d = field_or json.null as_attributes Attributes (get (codes "attributes") d)

-- the attributes of the system; null, in which there is nothing, where they are missing
unfoldable pub system_of : Data → Result Data SpecFault
system_of d = attributes_of d >>= λ attributes.
    field_or json.null as_map Attributes (get (codes "system") attributes)

-- in seconds; 0 is no limit
unfoldable pub duration_of : Data → Result ℕ SpecFault
duration_of system = field_or 0 as_natural Duration (get (codes "duration") system)

abbrev pub scheme_of : List ℕ → Option Scheme
scheme_of name = if bytes_eq name (codes "after") then Some After
    else if bytes_eq name (codes "afterany") then Some AfterAny
    else if bytes_eq name (codes "afterok") then Some AfterOk
    else if bytes_eq name (codes "afternotok") then Some AfterNotOk
    else None

-- the id that a text spells (Flux RFC 19)
abbrev pub id_of : Result ℕ FluidFault → Result ℕ SpecFault
id_of (Ok id) = Ok id
id_of (Err fault) = Err (BadField Dependencies)

unfoldable pub need_of : Data → Result Depend SpecFault
need_of d = do
  name ← field as_str Dependencies (codes "scheme") d
  scheme ← ok_or (scheme_of name) (BadShape Dependencies)
  value ← field as_str Dependencies (codes "value") d
  id ← id_of (meaning value)
  Ok (record { scheme = scheme; on = id })

unfoldable pub needs_of : Data → Result (List Depend) SpecFault
needs_of system =
    field_or [] as_list Dependencies (get (codes "dependencies") system) >>= each need_of

-- how long a job may run, and on which jobs it depends
pub record Limits : Type 0 where
  pub duration : ℕ
  pub depends : List Depend

unfoldable pub limits_of : Data → Result Limits SpecFault
limits_of d = do
  system ← system_of d
  duration ← duration_of system
  depends ← needs_of system
  Ok (record { duration = duration; depends = depends })
