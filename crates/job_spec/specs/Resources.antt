-- What a jobspec asks for (Flux RFC 14 and 25): a slot, or nodes with a slot each.
use Rattle.std.specs.Prelude.{ℕ, List, [], ◌∷◌, Bool, true, false, Option, Some, None, Result, Ok, Err, codes, if◌then◌else◌}
use Rattle.std.specs.Str.{bytes_eq}
use Rattle.serde_json.specs.Data.{Data}
use Rattle.serde_json.specs.Find.{get, as_str, as_bool}
use Rattle.job_spec.specs.declared.faults.Place.{Place}
use Rattle.job_spec.specs.declared.faults.Place.TheVariants.{Resources, Node, Slot, Core, Gpu}
use Rattle.job_spec.specs.declared.faults.SpecFault.{SpecFault}
use Rattle.job_spec.specs.declared.faults.SpecFault.TheVariants.{BadShape}
use Rattle.job_spec.specs.Fields.{◌>>=◌, unless, as_list, field, field_or, only, count_at}

-- the type of a vertex in the list of this place
abbrev pub type_of : Place → Data → Result (List ℕ) SpecFault
type_of place d = field as_str place (codes "type") d

-- whether a vertex of a slot is its core; else it is its gpu
unfoldable pub is_core : Data → Result Bool SpecFault
is_core d = do
  type ← type_of Slot d
  if bytes_eq type (codes "core") then Ok true else if bytes_eq type (codes "gpu")
      then Ok false else Err (BadShape Slot)

-- the units of a slot
pub record Units : Type 0 where
  pub cores : ℕ
  pub gpus : ℕ

unfoldable pub units_alone : Data → Result Units SpecFault
units_alone core = do
  cores ← count_at Core (codes "count") core
  Ok (record { cores = cores; gpus = 0 })

unfoldable pub units_at : Data → Data → Result Units SpecFault
units_at core gpu = do
  cores ← count_at Core (codes "count") core
  gpus ← count_at Gpu (codes "count") gpu
  Ok (record { cores = cores; gpus = gpus })

-- the units of two vertices, one of each type
abbrev pub in_order : Bool → Bool → Data → Data → Result Units SpecFault
in_order true false d e = units_at d e
in_order false true d e = units_at e d
in_order true true d e = Err (BadShape Slot)
in_order false false d e = Err (BadShape Slot)

unfoldable pub units_of_two : Data → Data → Result Units SpecFault
units_of_two d e = do
  first ← is_core d
  second ← is_core e
  in_order first second d e

unfoldable pub units_of_one : Data → Result Units SpecFault
units_of_one d = is_core d >>= λ core. if core then units_alone d else Err (BadShape Slot)

-- one core, and at most one gpu
unfoldable pub units_of : List Data → Result Units SpecFault
units_of [] = Err (BadShape Slot)
units_of (d ∷ []) = units_of_one d
units_of (d ∷ e ∷ []) = units_of_two d e
units_of (d ∷ e ∷ f ∷ ds) = Err (BadShape Slot)

-- so many slots of these units, and their label
pub record Slots : Type 0 where
  pub count : ℕ
  pub label : List ℕ
  pub units : Units

unfoldable pub slots_of : Data → Result Slots SpecFault
slots_of d = do
  count ← count_at Slot (codes "count") d
  label ← field as_str Slot (codes "label") d
  vertices ← field as_list Slot (codes "with") d
  units ← units_of vertices
  Ok (record { count = count; label = label; units = units })

-- slots spread over hosts, or the same on each of so many nodes
pub record Wanted : Type 0 where
  pub nodes : Option ℕ
  pub exclusive : Bool
  pub slots : Slots

unfoldable pub spread_of : Data → Result Wanted SpecFault
spread_of d = do
  slots ← slots_of d
  Ok (record { nodes = None; exclusive = false; slots = slots })

unfoldable pub exclusive_of : Data → Result Bool SpecFault
exclusive_of d = field_or false as_bool Node (get (codes "exclusive") d)

unfoldable pub nodes_of : Data → Result Wanted SpecFault
nodes_of d = do
  count ← count_at Node (codes "count") d
  exclusive ← exclusive_of d
  vertices ← field as_list Node (codes "with") d
  vertex ← only Node vertices
  type ← type_of Node vertex
  _ ← unless (BadShape Node) (bytes_eq type (codes "slot"))
  slots ← slots_of vertex
  Ok (record { nodes = Some count; exclusive = exclusive; slots = slots })

unfoldable pub wanted_of : Data → Result Wanted SpecFault
wanted_of d = do
  vertices ← field as_list Resources (codes "resources") d
  vertex ← only Resources vertices
  type ← type_of Resources vertex
  if bytes_eq type (codes "slot") then spread_of vertex
      else if bytes_eq type (codes "node") then nodes_of vertex else Err (BadShape Resources)
