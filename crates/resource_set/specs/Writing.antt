-- The canonical text of resources (R, version 1, of Flux RFC 20).
use Rattle.std.specs.Prelude.{◌≡◌, ◌≢◌, ℕ, ◌==◌, Some, None, List, [], ◌∷◌, ◌++◌, Bool, ◌&&◌, codes, length, map, if◌then◌else◌}
use Rattle.std.specs.List.{fold}
use Rattle.std.specs.Str.{bytes_eq}
use Rattle.serde_json.specs.Data.{Data, string, number, unsigned, array, object, Items, no_items, item, Members, no_members, member}
use Rattle.serde_json.specs.View.{items_of}
use Rattle.serde_json.specs.Written.{compact_text}
use Rattle.idset.specs.Runs.{printed}
use Rattle.idset.specs.Text.{first_fault, spelled}
use Rattle.hostlist.specs.Printing.{canonical}
use Rattle.resource_set.specs.declared.entries.Entry.{Entry}
use Rattle.resource_set.specs.declared.entries.Group.{Group}
use Rattle.resource_set.specs.declared.node.Node.{Node}
use Rattle.resource_set.specs.declared.node.Resources.{Resources}
use Rattle.resource_set.specs.Reading.{hosts_of}
use Rattle.resource_set.specs.Units.{host_names}

-- whether a host's cores and GPUs are those of an entry
abbrev pub fits_in : Node → Entry → Bool
fits_in node entry = bytes_eq node.cores entry.cores && bytes_eq node.gpus entry.gpus

-- the entry of one host, and an entry with the rank of one more
abbrev pub single : Node → Entry
single node = record { ranks = node.rank ∷ []; cores = node.cores; gpus = node.gpus }

abbrev pub added : Node → Entry → Entry
added node entry = record entry { ranks = entry.ranks ++ node.rank ∷ [] }

-- the entries with one more host, whose rank is the greatest: in the entry of its cores and GPUs,
-- or in one of its own
abbrev pub with_node : List Entry → Node → List Entry
with_node [] node = single node ∷ []
with_node (entry ∷ more) node =
    if fits_in node entry then added node entry ∷ more else entry ∷ with_node more node

-- the entries of hosts, by their least ranks
abbrev pub entries_of : List Node → List Entry
entries_of nodes = fold with_node [] nodes

-- a member that stands only where the text isn't empty
abbrev pub unless_empty : List ℕ → List ℕ → Members → Members
unless_empty key text more = if length text == 0 then more else member key (string text) more

-- an entry as a JSON value
abbrev pub entry_data : Entry → Data
entry_data entry = object
    (member (codes "children") (object (member (codes "core") (string (printed entry.cores))
    (unless_empty (codes "gpu") (printed entry.gpus) no_members)))
    (member (codes "rank") (string (printed entry.ranks)) no_members))

-- the entries of hosts as a JSON value
abbrev pub entries_data : List Node → Data
entries_data nodes = array (items_of (map entry_data (entries_of nodes)))

-- a list of one text, or of none
abbrev pub hosts_data : List (List ℕ) → Items
hosts_data [] = no_items
hosts_data (name ∷ names) = item (string (canonical (name ∷ names))) no_items

-- the names of hosts as a JSON value
abbrev pub names_data : List Node → Data
names_data nodes = array (hosts_data (host_names nodes))

-- entries and hosts in an R
abbrev pub framed : Data → Data → ℕ → ℕ → Data
framed entries hosts starttime expiration = object
    (member (codes "execution") (object
    (member (codes "R_lite") entries
    (member (codes "expiration") (number (unsigned expiration))
    (member (codes "nodelist") hosts
    (member (codes "starttime") (number (unsigned starttime)) no_members)))))
    (member (codes "version") (number (unsigned 1)) no_members))

-- resources as a JSON value
unfoldable pub data_of : Resources → Data
data_of r = framed (entries_data r.nodes) (names_data r.nodes) r.starttime r.expiration

-- the text of resources
abbrev pub r_text : Resources → List ℕ
r_text r = compact_text (data_of r)

-- ---- in the making

-- an entry with the texts of its cores and GPUs
abbrev pub written : Entry → Group
written entry = record {
  ranks = entry.ranks;
  cores = printed entry.cores;
  gpus = printed entry.gpus;
}

-- a group with one more rank
abbrev pub with_rank : ℕ → Group → Group
with_rank rank group = record group { ranks = group.ranks ++ rank ∷ [] }

-- whether the cores and GPUs of a group have these texts
abbrev pub has_texts : List ℕ → List ℕ → Group → Bool
has_texts cores gpus group = bytes_eq cores group.cores && bytes_eq gpus group.gpus

-- ids whose text spells them again
pub record IsSpelled (ids : List ℕ) : Type 0 where
  pub sound : first_fault (printed ids) ≡ None
  pub same : spelled (printed ids) ≡ ids

-- the cores and GPUs of an entry are such, and its ranks
pub record IsWritten (entry : Entry) : Type 0 where
  pub cores : IsSpelled entry.cores
  pub gpus : IsSpelled entry.gpus

pub record IsEntrySpelled (entry : Entry) : Type 0 where
  pub ranks : IsSpelled entry.ranks
  pub cores : IsSpelled entry.cores
  pub gpus : IsSpelled entry.gpus

-- the text of the hosts' names, where there are any, spells them again
abbrev pub AreNamesSpelled : List Node → Type 0
AreNamesSpelled nodes = nodes ≢ []
    → hosts_of (canonical (host_names nodes)) ≡ Some (host_names nodes)

-- the cores and GPUs of a group as a JSON value, and the group
abbrev pub children_data : Group → Data
children_data group = object
    (member (codes "core") (string group.cores) (unless_empty (codes "gpu") group.gpus no_members))

abbrev pub group_data : Group → List ℕ → Data
group_data group ranks = object (member (codes "children")
    (children_data group) (member (codes "rank") (string (printed ranks)) no_members))
