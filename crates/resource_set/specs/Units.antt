-- Units of resources: a core or a GPU of a host.
use Rattle.std.specs.Prelude.{◌≢◌, ◌<◌, ◌==◌, ◌↔◌, ℕ, List, [], ◌∷◌, ◌++◌, Bool, true, false, not, ◌&&◌, ◌||◌, map, filter, flat_map, length, All, Contains}
use Rattle.std.specs.List.{list_any, list_all}
use Rattle.std.specs.Str.{bytes_eq}
use Rattle.std.specs.List.Sorted.{IsStrictlyIncreasing}
use Rattle.idset.specs.Ids.{has}
use Rattle.resource_set.specs.declared.node.Node.{Node}

-- the names of hosts
abbrev pub host_names : List Node → List (List ℕ)
host_names nodes = map (λ node. node.host) nodes

-- whether this is the host of a name
abbrev pub is_named : List ℕ → Node → Bool
is_named name node = bytes_eq node.host name

-- a core or a GPU of a host
pub record ResourceUnit : Type 0 where
  pub host : List ℕ
  pub is_gpu : Bool
  pub id : ℕ

-- a core of a host, and a GPU of it
abbrev pub core_of : Node → ℕ → ResourceUnit
core_of node id = record { host = node.host; is_gpu = false; id = id }

abbrev pub gpu_of : Node → ℕ → ResourceUnit
gpu_of node id = record { host = node.host; is_gpu = true; id = id }

-- the units of a host
abbrev pub units_of_node : Node → List ResourceUnit
units_of_node node = map (core_of node) node.cores ++ map (gpu_of node) node.gpus

-- the units of several hosts
abbrev pub units_of : List Node → List ResourceUnit
units_of nodes = flat_map units_of_node nodes

-- every unit of the first is one of the second
abbrev pub LiesIn : List Node → List Node → Type 0
LiesIn part whole = (unit : ResourceUnit) → Contains (units_of part) unit
    → Contains (units_of whole) unit

-- the units that are left: those of the whole that aren't taken
abbrev pub IsDifference : List Node → List Node → List Node → Type 0
IsDifference whole taken left = (unit : ResourceUnit) → Contains (units_of left) unit
    ↔ (Contains (units_of whole) unit × (Contains (units_of taken) unit → ⊥))

-- no unit is in both
abbrev pub AreApart : List Node → List Node → Type 0
AreApart a b = (unit : ResourceUnit) → Contains (units_of a) unit → Contains (units_of b) unit → ⊥

-- no element stands twice
abbrev pub AreDistinct : {A : Type 0} → List A → Type 0
AreDistinct [] = Unit {0}
AreDistinct (x ∷ xs) = All (λ y. x ≢ y) xs × AreDistinct xs

-- the hosts' ranks rise, and no host stands twice
pub record AreHosts (nodes : List Node) : Type 0 where
  pub rising : IsStrictlyIncreasing (map (λ node. node.rank) nodes)
  pub small : All (λ node. node.rank < 65536) nodes
  pub hosts : AreDistinct (host_names nodes)

-- the ids of the first list that aren't in the second
abbrev pub without_ids : List ℕ → List ℕ → List ℕ
without_ids ids taken = filter (λ id. not (list_any (λ t. t == id) taken)) ids

-- a host without the cores and GPUs of another
abbrev pub without_node : Node → Node → Node
without_node taken node = record node {
  cores = without_ids node.cores taken.cores;
  gpus = without_ids node.gpus taken.gpus;
}

-- a host without the units that the nodes have there
abbrev pub without_nodes : List Node → Node → Node
without_nodes taken node =
    let there = filter (is_named node.host) taken in
    record node {
      cores = without_ids node.cores (flat_map (λ t. t.cores) there);
      gpus = without_ids node.gpus (flat_map (λ t. t.gpus) there);
    }

-- whether a host has all ids of another
abbrev pub has_ids_of : Node → Node → Bool
has_ids_of whole part = list_all (has whole.cores) part.cores && list_all (has whole.gpus) part.gpus

-- whether a node has all units of another
abbrev pub has_units_of : Node → Node → Bool
has_units_of whole part = is_named part.host whole && has_ids_of whole part

-- whether one of these has all units of a node
abbrev pub one_has_units_of : List Node → Node → Bool
one_has_units_of whole part = list_any (λ node. has_units_of node part) whole

-- whether the units of a node, if it has any, are units of one of these
abbrev pub lies_on : List Node → Node → Bool
lies_on whole part =
    (length part.cores == 0 && length part.gpus == 0) || one_has_units_of whole part
