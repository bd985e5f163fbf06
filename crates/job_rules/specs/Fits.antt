-- Which units satisfy a job, which are taken first, and which jobs stand in its way (Flux RFC 14).
use Rattle.std.specs.Prelude.{◌≡◌, ℕ, ◌+◌, ◌-◌, ◌*◌, ◌/◌, ◌≤◌, ◌==◌, ◌↔◌, min, List, [], ◌∷◌, Bool, true, false, not, ◌&&◌, ◌||◌, Option, Some, None, map, filter, flat_map, length, take, option_map, nat_le, nat_lt, Contains, MatchBool, if◌then◌else◌}
use Rattle.std.specs.List.{list_any, AllByRecursion as Each}
use Rattle.std.specs.List.Sorted.{IsStrictlyIncreasing}
use Rattle.std.specs.Str.{bytes_eq}
use Rattle.idset.specs.Ids.{has, IsIdSet}
use Rattle.job_spec.specs.declared.spec.JobSpec.{JobSpec}
use Rattle.job_rules.specs.declared.hold.Hold.{Hold}
use Rattle.resource_set.specs.declared.node.Node.{Node}
use Rattle.resource_set.specs.Units.{AreDistinct, AreHosts, LiesIn, units_of}

-- what every jobspec keeps: a slot at least, and a core at least in each
pub record IsSpec (spec : JobSpec) : Type 0 where
  pub slots : (1 ≤ spec.slots) × (spec.slots ≤ 65536)
  pub cores : (1 ≤ spec.cores) × (spec.cores ≤ 65536)
  pub gpus : spec.gpus ≤ 65536
  pub nodes : (count : ℕ) → spec.nodes ≡ Some count → 1 ≤ count

-- a set of units, each host and each unit written once
pub record IsUnitSet (nodes : List Node) : Type 0 where
  pub hosts : AreDistinct (map (λ node. node.host) nodes)
  pub once : AreDistinct (units_of nodes)

-- a host whose cores and GPUs are sets of ids
abbrev pub HasIdSets : Node → Type 0
HasIdSets node = IsIdSet node.cores × IsIdSet node.gpus

-- a grant: hosts in rank order with sets of ids
pub record IsGrant (nodes : List Node) : Type 0 where
  pub hosts : AreHosts nodes
  pub sets : Each HasIdSets nodes

-- the host has exactly the units of so many slots
abbrev pub HasSlots : JobSpec → ℕ → Node → Type 0
HasSlots spec count node = (length node.cores ≡ count * spec.cores)
    × (length node.gpus ≡ count * spec.gpus)

-- the hosts have the units of so many slots in all
abbrev pub HaveSlots : JobSpec → ℕ → List Node → Type 0
HaveSlots spec count [] = count ≡ 0
HaveSlots spec count (node ∷ nodes) = (here : ℕ) × (rest : ℕ)
    × (count ≡ here + rest) × HasSlots spec here node × HaveSlots spec rest nodes

-- the host is wholly taken and has room for so many slots
abbrev pub IsWholeHost : JobSpec → List Node → Node → Type 0
IsWholeHost spec grant node = Contains grant node × (spec.slots * spec.cores ≤ length node.cores)
    × (spec.slots * spec.gpus ≤ length node.gpus)

-- a host of a job that asks for whole nodes, or for slots on each
abbrev pub IsNodeFor : JobSpec → List Node → Node → Type 0
IsNodeFor spec grant node =
    MatchBool spec.exclusive (IsWholeHost spec grant node) (HasSlots spec spec.slots node)

-- the units satisfy the job: slots spread over hosts, or the same on each of so many nodes
abbrev pub SatisfiesAs : Option ℕ → JobSpec → List Node → List Node → Type 0
SatisfiesAs None spec grant nodes = HaveSlots spec spec.slots nodes
SatisfiesAs (Some count) spec grant nodes =
    (length nodes ≡ count) × Each (IsNodeFor spec grant) nodes

-- the units satisfy the job
abbrev pub Satisfies : JobSpec → List Node → List Node → Type 0
Satisfies spec grant nodes = SatisfiesAs spec.nodes spec grant nodes

-- some of these units satisfy the job
pub record CanFit (spec : JobSpec) (grant free : List Node) : Type 0 where
  pub nodes : List Node
  pub set : IsUnitSet nodes
  pub inside : LiesIn nodes free
  pub satisfied : Satisfies spec grant nodes

-- the job never fits: nothing in the whole grant satisfies it
abbrev pub NeverFits : JobSpec → List Node → Type 0
NeverFits spec grant = CanFit spec grant grant → ⊥

-- how many slots have room on a host
abbrev pub room_on : JobSpec → Node → ℕ
room_on spec node = if spec.gpus == 0 then length node.cores / spec.cores
    else min (length node.cores / spec.cores) (length node.gpus / spec.gpus)

-- the lowest units of a host for so many slots
abbrev pub lowest : JobSpec → ℕ → Node → Node
lowest spec count node = record {
  rank = node.rank;
  host = node.host;
  cores = take (count * spec.cores) node.cores;
  gpus = take (count * spec.gpus) node.gpus;
}

-- a host with its units, unless it has none of them
abbrev pub with_host : ℕ → Node → List Node → List Node
with_host count node nodes = if count == 0 then nodes else node ∷ nodes

-- slots taken from host to host, as many on each as have room
abbrev pub spread : JobSpec → ℕ → List Node → Option (List Node)
spread spec wanted [] = if wanted == 0 then Some [] else None
spread spec wanted (node ∷ nodes) = let here = min wanted (room_on spec node) in
    option_map (with_host here (lowest spec here node)) (spread spec (wanted - here) nodes)

-- whether a host is as free as the grant has it
abbrev pub is_wholly_free : List Node → Node → Bool
is_wholly_free grant node = list_any (λ g. bytes_eq g.host node.host
    && (length g.cores == length node.cores) && (length g.gpus == length node.gpus)) grant

-- whether a host serves a job that asks for nodes, and the units that it gives
abbrev pub serves : JobSpec → List Node → Node → Bool
serves spec grant node =
    nat_le spec.slots (room_on spec node) && (not spec.exclusive || is_wholly_free grant node)

abbrev pub given_by : JobSpec → Node → Node
given_by spec node = if spec.exclusive then node else lowest spec spec.slots node

-- the first so many elements, if there are so many
abbrev pub first_of : {A : Type 0} → ℕ → List A → Option (List A)
first_of count xs = if nat_le count (length xs) then Some (take count xs) else None

-- first fit over the free units, host by host in rank order
abbrev pub first_fit_as : Option ℕ → JobSpec → List Node → List Node → Option (List Node)
first_fit_as None spec grant free = spread spec spec.slots free
first_fit_as (Some count) spec grant free = option_map
    (λ nodes. map (given_by spec) nodes) (first_of count (filter (serves spec grant) free))

-- the units that a job takes
abbrev pub first_fit : JobSpec → List Node → List Node → Option (List Node)
first_fit spec grant free = first_fit_as spec.nodes spec grant free

-- whether one of the nodes has this core, or this GPU, of a host
abbrev pub has_unit : (Node → List ℕ) → List Node → List ℕ → ℕ → Bool
has_unit kind nodes host id = list_any (λ node. bytes_eq node.host host && has (kind node) id) nodes

-- the cores, or the GPUs, of a host that none of the nodes has
abbrev pub left_on : (Node → List ℕ) → List Node → Node → List ℕ
left_on kind taken node = filter (λ id. not (has_unit kind taken node.host id)) (kind node)

-- a host without the units that the nodes have there
abbrev pub without_nodes : List Node → Node → Node
without_nodes taken node = record {
  rank = node.rank;
  host = node.host;
  cores = left_on (λ n. n.cores) taken node;
  gpus = left_on (λ n. n.gpus) taken node;
}

-- the units of live jobs, and the grant without them
abbrev pub nodes_of : List Hold → List Node
nodes_of holds = flat_map (λ hold. hold.nodes) holds

abbrev pub free_of : List Node → List Hold → List Node
free_of grant holds = map (without_nodes (nodes_of holds)) grant

-- the jobs of a list of ids
abbrev pub with_ids : List ℕ → List Hold → List Hold
with_ids ids live = filter (λ h. has ids h.id) live

-- the jobs of the list below this one, and all live jobs above it
abbrev pub others_at : ℕ → List ℕ → List Hold → List Hold
others_at id ids live = filter (λ h. (nat_lt h.id id && has ids h.id) || nat_lt id h.id) live

-- the minimal list of live jobs in whose way a job can't fit: one is listed exactly where the
-- listed ones below it and all live ones above it leave room
pub record AreBlockers (spec : JobSpec) (grant : List Node)
    (live : List Hold) (ids : List ℕ) : Type 0 where
  pub rising : IsStrictlyIncreasing ids
  pub alive : (id : ℕ) → Contains ids id → Contains (map (λ h. h.id) live) id
  pub block : CanFit spec grant (free_of grant (with_ids ids live)) → ⊥
  pub exact : (hold : Hold) → Contains live hold
      → Contains ids hold.id ↔ CanFit spec grant (free_of grant (others_at hold.id ids live))

-- the second at which a job ends that starts now, or 0 where it has no duration
abbrev pub end_of : JobSpec → ℕ → ℕ
end_of spec now = if spec.duration == 0 then 0 else min (now + spec.duration) 18446744073709551615

-- the sooner of two seconds, of which 0 is none
abbrev pub sooner : ℕ → ℕ → ℕ
sooner a b = if a == 0 then b else if b == 0 then a else min a b

-- each unit of the first stands in the second, on the host of the same rank and name
pub record IsPartOf (part whole : Node) : Type 0 where
  pub rank : part.rank ≡ whole.rank
  pub host : part.host ≡ whole.host
  pub cores : (id : ℕ) → has part.cores id ≡ true → has whole.cores id ≡ true
  pub gpus : (id : ℕ) → has part.gpus id ≡ true → has whole.gpus id ≡ true

abbrev pub IsWithin : List Node → Node → Type 0
IsWithin whole part = (node : Node) × Contains whole node × IsPartOf part node

-- hosts in rank order whose units are among these, by rank and name
pub record AreWithin (part whole : List Node) : Type 0 where
  pub hosts : AreHosts part
  pub inside : Each (IsWithin whole) part

-- no core and no GPU of a host is in both
abbrev pub AreApart : List Node → List Node → Type 0
AreApart a b = (host : List ℕ) (id : ℕ)
    → (has_unit (λ n. n.cores) a host id ≡ true → has_unit (λ n. n.cores) b host id ≡ false)
    × (has_unit (λ n. n.gpus) a host id ≡ true → has_unit (λ n. n.gpus) b host id ≡ false)

-- no two jobs hold a unit in common
abbrev pub AllApart : List Hold → Type 0
AllApart [] = Unit {0}
AllApart (hold ∷ holds) = AreApart hold.nodes (nodes_of holds) × AllApart holds

-- live jobs by id, each within the grant, no two of which hold a unit in common
pub record AreLive (grant : List Node) (holds : List Hold) : Type 0 where
  pub rising : IsStrictlyIncreasing (map (λ hold. hold.id) holds)
  pub within : Each (λ hold. AreWithin hold.nodes grant) holds
  pub apart : AllApart holds
