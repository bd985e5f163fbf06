-- The hosts of a grant, and what is free there.
use Rattle.std.specs.Prelude.{Bool, List, [], ◌∷◌, map, if◌then◌else◌}
use Rattle.std.specs.Str.{bytes_eq}
use Rattle.resource_set.specs.declared.node.Node.{Node}
use Rattle.graph_match.specs.declared.place.Place.{Place}
use Rattle.graph_match.specs.Spots.{ids_of, free_ids, free_spot, marked_at}

-- a host with all its units, and with those that are free
abbrev pub node_of : Place → Node
node_of place = record {
  rank = place.rank;
  host = place.host;
  cores = ids_of place.cores;
  gpus = ids_of place.gpus;
}

abbrev pub free_node : Place → Node
free_node place = record {
  rank = place.rank;
  host = place.host;
  cores = free_ids place.cores;
  gpus = free_ids place.gpus;
}

-- a host that is free
abbrev pub fresh_place : Node → Place
fresh_place node = record {
  rank = node.rank;
  host = node.host;
  cores = map free_spot node.cores;
  gpus = map free_spot node.gpus;
}

-- a host once a job's units there are free, or held
abbrev pub marked_place : Bool → Node → Place → Place
marked_place free node place = record {
  rank = place.rank;
  host = place.host;
  cores = map (marked_at free node.cores) place.cores;
  gpus = map (marked_at free node.gpus) place.gpus;
}

-- what a node's units change at its host alone, and what the units of several nodes change, one
-- after another
abbrev pub at_host : Bool → Node → Place → Place
at_host free node place = if bytes_eq node.host place.host
    then marked_place free node place else place

abbrev pub after_each : Bool → List Node → Place → Place
after_each free [] place = place
after_each free (node ∷ nodes) place = after_each free nodes (at_host free node place)
