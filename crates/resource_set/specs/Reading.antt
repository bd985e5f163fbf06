-- The resources that a JSON value tells (R, version 1, of Flux RFC 20).
use Rattle.std.specs.Prelude.{ℕ, ◌^◌, ◌-◌, ◌==◌, min, List, [], ◌∷◌, ◌++◌, Bool, true, false, not, ◌&&◌, Option, Some, None, is_none, unwrap_or, option_map, option_and_then, Result, Ok, Err, codes, length, map, flat_map, if◌then◌else◌}
use Rattle.std.specs.List.{find, list_any, zip}
use Rattle.std.specs.Option.{ok_or, option_map_or}
use Rattle.std.specs.Str.{bytes_eq}
use Rattle.outcomes.specs.Outcomes.{or_else}
use Rattle.serde_json.specs.Data.{Data, Items, no_items, item}
use Rattle.serde_json.specs.Find.{get, as_str, as_array, as_object}
use Rattle.fl_json.specs.Reading.{as_natural, reading}
use Rattle.fl_json.specs.declared.faults.JsonFault.{JsonFault}
use Rattle.idset.specs.Ids.{has, list_of}
use Rattle.idset.specs.Text as ids
use Rattle.hostlist.specs.Reading as hosts
use Rattle.resource_set.specs.declared.entries.Entry.{Entry}
use Rattle.resource_set.specs.declared.node.Node.{Node}
use Rattle.resource_set.specs.declared.node.Resources.{Resources}
use Rattle.resource_set.specs.declared.faults.RKey.TheVariants.{Execution, RLite, Rank, Children, Core, Gpu, Nodelist, Starttime, Expiration}
use Rattle.resource_set.specs.declared.faults.RFault.{RFault}
use Rattle.resource_set.specs.declared.faults.RFault.TheVariants.{NoMemory, NotJson, BadVersion, BadField, RankTwice, HostsDiffer, HostTwice}

infixl 10 ◌>>=◌
abbrev pub ◌>>=◌ : {A B E : Type 0} → Result A E → (A → Result B E) → Result B E
(Ok x) >>= f = f x
(Err e) >>= f = Err e

-- ---- fields

-- an object
abbrev pub as_object_data : Data → Option Data
as_object_data d = option_map (λ _. d) (as_object d)

-- the object, the list and the text under a key
abbrev pub object_at : List ℕ → Data → Option Data
object_at key d = option_and_then as_object_data (get key d)

abbrev pub list_at : List ℕ → Data → Option Items
list_at key d = option_and_then as_array (get key d)

abbrev pub text_at : List ℕ → Data → Option (List ℕ)
text_at key d = option_and_then as_str (get key d)

-- the ids that a text spells
abbrev pub ids_of : List ℕ → Option (List ℕ)
ids_of text = if is_none (ids.first_fault text) then Some (ids.spelled text) else None

-- the ids under a key, and those of a key that may be missing
abbrev pub ids_at : List ℕ → Data → Option (List ℕ)
ids_at key d = option_and_then ids_of (text_at key d)

abbrev pub ids_if_there : List ℕ → Data → Option (List ℕ)
ids_if_there key d = if is_none (get key d) then Some [] else ids_at key d

-- the seconds of a key that may be missing
abbrev pub seconds_at : List ℕ → Data → Option ℕ
seconds_at key d = if is_none (get key d) then Some 0 else option_and_then as_natural (get key d)

-- whether the version is 1
abbrev pub is_version_1 : Data → Bool
is_version_1 d =
    option_map_or (λ n. n == 1) (option_and_then as_natural (get (codes "version") d)) false

-- the hosts that a hostlist's text spells
abbrev pub hosts_of : List ℕ → Option (List (List ℕ))
hosts_of text = if is_none (hosts.first_fault text) then Some (hosts.spelled text) else None

-- the hosts of several texts, joined in their order
abbrev pub all_hosts : Items → Option (List (List ℕ))
all_hosts no_items = Some []
all_hosts (item d ds) = option_and_then (λ names. option_map (λ more. names ++ more) (all_hosts ds))
    (option_and_then hosts_of (as_str d))

abbrev pub hosts_at : List ℕ → Data → Option (List (List ℕ))
hosts_at key d = option_and_then all_hosts (list_at key d)

-- ---- entries

-- the entry that a value tells, or its first bad field
unfoldable pub entry_of : Data → Result Entry RFault
entry_of d = do
  entry ← ok_or (as_object_data d) (BadField RLite)
  ranks ← ok_or (ids_at (codes "rank") entry) (BadField Rank)
  children ← ok_or (object_at (codes "children") entry) (BadField Children)
  cores ← ok_or (ids_at (codes "core") children) (BadField Core)
  gpus ← ok_or (ids_if_there (codes "gpu") children) (BadField Gpu)
  Ok (record { ranks = ranks; cores = cores; gpus = gpus })

-- the entries of a list, or the first bad field
abbrev pub entries_in : Items → Result (List Entry) RFault
entries_in no_items = Ok []
entries_in (item d ds) = do
  entry ← entry_of d
  entries ← entries_in ds
  Ok (entry ∷ entries)

-- ---- hosts by rank

-- whether one of the entries has a rank
abbrev pub has_rank : ℕ → Entry → Bool
has_rank rank entry = has entry.ranks rank

-- the first rank that an entry has and one before it has, too
abbrev pub twice_behind : List Entry → List Entry → Option ℕ
twice_behind before [] = None
twice_behind before (entry ∷ more) =
    or_else (find (λ rank. list_any (has_rank rank) before) entry.ranks)
    (twice_behind (before ++ entry ∷ []) more)

-- the ranks of all entries in order
abbrev pub ranks_of : List Entry → List ℕ
ranks_of entries = list_of (flat_map (λ entry. entry.ranks) entries)

-- no rank, no core and no GPU
abbrev pub no_entry : Entry
no_entry = record { ranks = []; cores = []; gpus = [] }

-- a host at a rank with the cores and GPUs of an entry
abbrev pub node_with : Entry → ℕ → List ℕ → Node
node_with entry rank host = record {
  rank = rank;
  host = host;
  cores = entry.cores;
  gpus = entry.gpus;
}

-- a host at a rank, with the cores and GPUs of the entry that has the rank
abbrev pub node_at : List Entry → ℕ → List ℕ → Node
node_at entries rank host = node_with (unwrap_or (find (has_rank rank) entries) no_entry) rank host

-- the hosts belong to the ranks in order
abbrev pub nodes_with : List Entry → List ℕ → List (List ℕ) → List Node
nodes_with entries ranks hosts = map (λ p. node_at entries p.0 p.1) (zip ranks hosts)

-- whether no name stands twice
abbrev pub are_distinct : List (List ℕ) → Bool
are_distinct [] = true
are_distinct (name ∷ names) = not (list_any (bytes_eq name) names) && are_distinct names

-- this fault where a test fails
abbrev pub only_if : {A : Type 0} → Bool → RFault → A → Result A RFault
only_if test fault x = if test then Ok x else Err fault

-- no fault where there is no rank that stands twice
abbrev pub unless_twice : Option ℕ → Result ℕ RFault
unless_twice None = Ok 0
unless_twice (Some rank) = Err (RankTwice rank)

-- a count, as far as 32 bits tell it
abbrev pub told_count : ℕ → ℕ
told_count n = min n (2 ^ 32 - 1)

-- the hosts at their ranks, or the fault of ranks and hosts that don't fit
unfoldable pub nodes_of : List Entry → List (List ℕ) → Result (List Node) RFault
nodes_of entries names = do
  once ← unless_twice (twice_behind [] entries)
  ranks ← only_if (length (ranks_of entries) == length names) (HostsDiffer
      (told_count (length (ranks_of entries))) (told_count (length names))) (ranks_of entries)
  only_if (are_distinct names) HostTwice (nodes_with entries ranks names)

-- ---- all of it

-- the resources of the object under `execution`
unfoldable pub executed : Data → Result Resources RFault
executed d = do
  items ← ok_or (list_at (codes "R_lite") d) (BadField RLite)
  entries ← entries_in items
  names ← ok_or (hosts_at (codes "nodelist") d) (BadField Nodelist)
  starttime ← ok_or (seconds_at (codes "starttime") d) (BadField Starttime)
  expiration ← ok_or (seconds_at (codes "expiration") d) (BadField Expiration)
  nodes ← nodes_of entries names
  Ok (record { nodes = nodes; starttime = starttime; expiration = expiration })

-- the resources that a value tells, or the first fault
unfoldable pub resources_of : Data → Result Resources RFault
resources_of d = do
  value ← only_if (is_version_1 d) BadVersion d
  execution ← ok_or (object_at (codes "execution") value) (BadField Execution)
  executed execution

-- a text's fault as the fault of an R
abbrev pub as_r : {A : Type 0} → Result A JsonFault → Result A RFault
as_r (Ok x) = Ok x
as_r (Err fault) = Err (NotJson fault)

-- the resources that a text tells, or the first fault
abbrev pub told : List ℕ → Result Resources RFault
told text = as_r (reading text) >>= resources_of

-- the faults that tell of what is read: all but want of memory
abbrev pub lasting : RFault → Option RFault
lasting NoMemory = None
lasting fault = Some fault
