-- Which jobs a cell of a picture names.
use Rattle.std.specs.Prelude.{ℕ, ◌==◌, ◌&&◌, List, Bool, true, false, not, Option, Some, None, filter, map, if◌then◌else◌}
use Rattle.std.specs.List.{list_any}
use Rattle.std.specs.Option.{option_map_or}
use Rattle.std.specs.Str.{bytes_eq}
use Rattle.manager_rules.specs.Jobs.{StoredJob, ids_of, is_live}
use Rattle.resource_set.specs.Units.{ResourceUnit, units_of}
use Rattle.resource_set.specs.declared.node.Node.{Node}
use Rattle.run_picture.specs.declared.picture.Place.{Place}
use Rattle.run_picture.specs.declared.picture.Rows.{Rows}
use Rattle.run_picture.specs.declared.picture.Rows.TheVariants as rows
use Rattle.run_picture.specs.declared.picture.HostUnit.{HostUnit}

-- ---- the rows

abbrev pub place_of_unit : ResourceUnit → Place
place_of_unit unit = record {
  host = unit.host;
  unit = Some (record { is_gpu = unit.is_gpu; id = unit.id });
}

abbrev pub place_of_host : Node → Place
place_of_host node = record { host = node.host; unit = None }

-- the rows of a grant: its hosts, or its units one by one
abbrev pub places_of : Rows → List Node → List Place
places_of rows.Hosts nodes = map place_of_host nodes
places_of rows.Units nodes = map place_of_unit (units_of nodes)

-- ---- the cells

abbrev pub is_unit : Option HostUnit → ResourceUnit → Bool
is_unit None unit = true
is_unit (Some u) unit = (if u.is_gpu then unit.is_gpu else not unit.is_gpu) && (unit.id == u.id)

-- whether a unit stands at the place: on the host, or as that very unit
abbrev pub is_at : Place → ResourceUnit → Bool
is_at place unit = bytes_eq unit.host place.host && is_unit place.unit unit

-- whether the job is live and has a unit at the place
abbrev pub holds_at : Place → StoredJob → Bool
holds_at place j =
    is_live j.job && option_map_or (λ r. list_any (is_at place) (units_of r.nodes)) j.r false

-- the cell of a place, where these are the jobs: those with a unit there, by their ids
abbrev pub cell_in : List StoredJob → Place → List ℕ
cell_in jobs place = ids_of (filter (holds_at place) jobs)
