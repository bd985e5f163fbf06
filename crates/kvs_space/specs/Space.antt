-- A namespace at all brokers.
use Rattle.std.specs.Prelude.{ℕ, zero, suc, ◌+◌, ◌++◌, map, flat_map, ◌-◌, nat_lt, ◌==◌, ◌&&◌, not, count_by, slice_get, min, Bool, List, [], Option, Some, None, length, slice_index, slice_index_or, cond}
use Rattle.std.specs.List.{list_all, list_any}
use Rattle.std.specs.Option.{option_map_or, option_map}
use Rattle.std.specs.Str.{bytes_eq}
use Rattle.kvs_txn.specs.declared.txn.By.{By}
use Rattle.kvs_txn.specs.declared.txn.Group.{Group}
use Rattle.kvs_model.specs.Store.{Name, Store, empty_store}
use Rattle.kvs_model.specs.History.{first_store}
use Rattle.fence_merge.specs.declared.member.Member.{Member}
use Rattle.fence_merge.specs.Fences.{Fences}
use Rattle.fence_merge.specs.Groups.{group_of}
use Rattle.fence_merge.specs.Merging.{MergerValue}
use Rattle.kvs_rules.specs.Brokers.{parent}
use Rattle.kvs_rules.specs.Log.{same_command}
use Rattle.kvs_rules.specs.Namespaces.{is_primary}

-- a namespace: each list but `history` goes by brokers
pub record SpaceValue : Type 0 where
  pub name : Name
  pub removed : Bool
  pub history : List (List Group)  -- the landings, each its transactions
  pub known : List ℕ  -- how many of its roots each broker has heard of
  pub stores : List Store  -- the store of each broker
  -- the announcements on the way to each broker from the one above it, the oldest first
  pub links : List (List ℕ)
  pub merger : MergerValue  -- what waits at rank 0 to land

-- the number of the newest root, of so many that are known
abbrev pub number_of : ℕ → Option ℕ
number_of zero = None
number_of (suc number) = Some number

-- how many landings the store of a broker has that knows of so many roots; the last root may be a
-- removal, which has none
abbrev pub seen : ℕ → ℕ → ℕ
seen known landed = min (known - 1) landed

-- the store at which a namespace begins
abbrev pub begun : List ℕ → Name → Store
begun grant name = cond (is_primary name) (first_store grant) empty_store

-- how many roots a namespace has: the first, one for each landing, and one for the removal
abbrev pub roots_of : SpaceValue → ℕ
roots_of s = 1 + length s.history + cond s.removed 1 0

-- whether this is the namespace of the name
abbrev pub is_named : Name → SpaceValue → Bool
is_named name s = bytes_eq name s.name

-- the name of the namespace at this place in the table
abbrev pub name_at : List SpaceValue → ℕ → Option Name
name_at spaces space = option_map (λ s. s.name) (slice_get spaces space)

-- how many roots the broker knows of the namespace of this place in the table
abbrev pub known_at : List SpaceValue → ℕ → ℕ → ℕ
known_at spaces space broker =
    option_map_or (λ s. slice_index s.known broker) (slice_get spaces space) 0

-- whether the broker has heard the namespace's removal, which is its last root
abbrev pub has_heard_end : ℕ → SpaceValue → Bool
has_heard_end broker s = s.removed && (slice_index s.known broker == slice_index s.known 0)

-- whether this is the namespace of the name, and the broker has heard of it
abbrev pub is_known_to : ℕ → Name → SpaceValue → Bool
is_known_to broker name s = is_named name s && nat_lt 0 (slice_index s.known broker)

-- how many of these namespaces are live
abbrev pub live_in : List SpaceValue → ℕ
live_in spaces = count_by (λ s. not s.removed) spaces

-- whether a transaction carries out the command
abbrev pub is_authored : By → Group → Bool
is_authored by group = list_any (same_command by) group.authors

-- the members of open fences, the oldest fence's first
abbrev pub members_in : Fences → List Member
members_in fences = flat_map (λ f. f.1.members) fences

-- the transactions that wait: those that are ready, and those of the members of open fences
abbrev pub queued : MergerValue → List Group
queued merger = merger.ready ++ map (group_of []) (members_in merger.fences)

-- whether the command waits to land there
abbrev pub carries : SpaceValue → By → Bool
carries s by = list_any (is_authored by) (queued s.merger)

-- whether something is ready to land in the namespace
abbrev pub is_ready : SpaceValue → Bool
is_ready s = nat_lt 0 (length s.merger.ready)

-- the announcements on the way to a broker
abbrev pub link_at : List (List ℕ) → ℕ → List ℕ
link_at links broker = slice_index_or links broker []

-- whether an announcement is on the way to the broker
abbrev pub has_news : ℕ → SpaceValue → Bool
has_news broker s = nat_lt 0 (length (link_at s.links broker))

-- whether the broker knows of fewer roots than the broker above it
abbrev pub is_behind : ℕ → ℕ → SpaceValue → Bool
is_behind fanout broker s = nat_lt broker (length s.known)
    && nat_lt (slice_index s.known broker) (slice_index s.known (parent fanout broker))

-- whether nothing happens in the namespace any more: it was removed, each broker has heard that, no
-- announcement is on the way, and nothing is ready to land
abbrev pub is_at_rest : SpaceValue → Bool
is_at_rest s = s.removed && not (is_ready s) && list_all (λ link. length link == 0) s.links
    && list_all (λ known. known == slice_index s.known 0) s.known
