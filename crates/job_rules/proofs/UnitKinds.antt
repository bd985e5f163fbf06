-- A host's units of one kind, its cores or its GPUs: what holds of both kinds alike is said once, of either.
use Rattle.std.proofs.Common.{◌≡◌, ℕ, ◌*◌, Bool, true, false, List, take, map, refl, sym, ap, ◌∙◌, subst, inl, inr}
use Rattle.std.specs.Prelude.{not, if◌then◌else◌}
use Rattle.std.proofs.lemmas.Bool.{not-true}
use Rattle.idset.specs.Ids.{has, IsIdSet}
use Rattle.job_spec.specs.declared.spec.JobSpec.{JobSpec}
use Rattle.resource_set.specs.declared.node.Node.{Node}
use Rattle.resource_set.specs.Units.{LiesIn, ResourceUnit, core_of, gpu_of, units_of, units_of_node}
use Rattle.job_rules.specs.Fits.{AreApart, HasIdSets, IsPartOf, has_unit, left_on, lowest, without_nodes}
use Rattle.job_rules.proofs.Among.{Among, Distinct, among_append, among_filter, among_flat, among_flattened, among_from, among_kept, among_left, among_map, among_mapped, among_right, contains_from, distinct_left, distinct_right, distinct_rising, distinct_unmapped}

-- a unit of a kind, a host's units of it, and how many of them a slot takes
abbrev pub unit_at : Bool → List ℕ → ℕ → ResourceUnit
unit_at gpu host id = record { host = host; is_gpu = gpu; id = id }

abbrev pub kind : Bool → Node → List ℕ
kind gpu node = if gpu then node.gpus else node.cores

abbrev pub asked : Bool → JobSpec → ℕ
asked gpu spec = if gpu then spec.gpus else spec.cores

-- ---- what the definitions say of each kind
pub kind_left : (gpu : Bool) (taken : List Node) (g : Node) → kind gpu (without_nodes taken g) ≡ left_on (kind gpu) taken g
kind_left false taken g = refl
kind_left true taken g = refl

pub kind_lowest : (gpu : Bool) (spec : JobSpec) (count : ℕ) (node : Node) → kind gpu (lowest spec count node) ≡ take (count * asked gpu spec) (kind gpu node)
kind_lowest false spec count node = refl
kind_lowest true spec count node = refl

pub kind_set : (gpu : Bool) (node : Node) → HasIdSets node → IsIdSet (kind gpu node)
kind_set false node sets = sets.0
kind_set true node sets = sets.1

pub kind_distinct : (gpu : Bool) (node : Node) → HasIdSets node → Distinct (kind gpu node)
kind_distinct gpu node sets = let set = kind_set gpu node sets in distinct_rising (kind gpu node) set.rising

pub kind_part : (gpu : Bool) (part whole : Node) → IsPartOf part whole → (id : ℕ) → has (kind gpu part) id ≡ true → has (kind gpu whole) id ≡ true
kind_part false part whole is = is.cores
kind_part true part whole is = is.gpus

pub kind_apart : (gpu : Bool) (a b : List Node) → AreApart a b → (host : List ℕ) (id : ℕ) → has_unit (kind gpu) a host id ≡ true → has_unit (kind gpu) b host id ≡ false
kind_apart false a b apart host id = (apart host id).0
kind_apart true a b apart host id = (apart host id).1

-- and what holds of each kind makes them hold
pub part_from : (part whole : Node) → part.rank ≡ whole.rank → part.host ≡ whole.host → ((gpu : Bool) (id : ℕ) → has (kind gpu part) id ≡ true → has (kind gpu whole) id ≡ true) → IsPartOf part whole
part_from part whole rank host ids = record { rank = rank; host = host; cores = ids false; gpus = ids true }

pub apart_from : (a b : List Node) → ((gpu : Bool) (host : List ℕ) (id : ℕ) → has_unit (kind gpu) a host id ≡ true → has_unit (kind gpu) b host id ≡ false) → AreApart a b
apart_from a b apart host id = (apart false host id, apart true host id)

pub kind_once : (gpu : Bool) (node : Node) → Distinct (units_of_node node) → Distinct (kind gpu node)
kind_once false node d = distinct_unmapped (core_of node) node.cores (distinct_left (map (core_of node) node.cores) (map (gpu_of node) node.gpus) d)
kind_once true node d = distinct_unmapped (gpu_of node) node.gpus (distinct_right (map (core_of node) node.cores) (map (gpu_of node) node.gpus) d)

-- ---- the units of hosts
among_node : (gpu : Bool) (n : Node) (id : ℕ) → Among id (kind gpu n) → Among (unit_at gpu n.host id) (units_of_node n)
among_node false n id i = among_left (map (core_of n) n.cores) (map (gpu_of n) n.gpus) (unit_at false n.host id) (among_mapped (core_of n) n.cores id i)
among_node true n id i = among_right (map (core_of n) n.cores) (map (gpu_of n) n.gpus) (unit_at true n.host id) (among_mapped (gpu_of n) n.gpus id i)

pub node_among : (n : Node) (unit : ResourceUnit) → Among unit (units_of_node n) → (n.host ≡ unit.host) × Among unit.id (kind unit.is_gpu n)
node_among n unit i = elim (among_append (map (core_of n) n.cores) (map (gpu_of n) n.gpus) unit i) [
  | inl c ↦ let hit = among_map (core_of n) n.cores unit c in found false unit hit.0 hit.1 hit.2
  | inr g ↦ let hit = among_map (gpu_of n) n.gpus unit g in found true unit hit.0 hit.1 hit.2
]
  where
    found : (gpu : Bool) (unit : ResourceUnit) (k : ℕ) → Among k (kind gpu n) → unit_at gpu n.host k ≡ unit → (n.host ≡ unit.host) × Among unit.id (kind unit.is_gpu n)
    found gpu unit k j e = subst (λ u. (n.host ≡ u.host) × Among u.id (kind u.is_gpu n)) e (refl, j)

-- a host of this name among these has the unit
abbrev pub HasUnit : Bool → List Node → List ℕ → ℕ → Type 0
HasUnit gpu nodes host id = (node : Node) × Among node nodes × (node.host ≡ host) × Among id (kind gpu node)

pub unit_among : (nodes : List Node) (unit : ResourceUnit) → Among unit (units_of nodes) → HasUnit unit.is_gpu nodes unit.host unit.id
unit_among nodes unit i =
    let hit = among_flat units_of_node nodes unit i in
    let here = node_among hit.0 unit hit.2 in
    (hit.0, hit.1, here.0, here.1)

pub among_unit : (nodes : List Node) (unit : ResourceUnit) → HasUnit unit.is_gpu nodes unit.host unit.id → Among unit (units_of nodes)
among_unit nodes unit h = among_flattened units_of_node nodes h.0 unit h.1 (subst (λ host. Among (unit_at unit.is_gpu host unit.id) (units_of_node h.0)) h.2 (among_node unit.is_gpu h.0 unit.id h.3))

-- hosts lie in others where these have each unit of theirs
pub lies_from : (part whole : List Node) → ((gpu : Bool) (node : Node) (id : ℕ) → Among node part → Among id (kind gpu node) → HasUnit gpu whole node.host id) → LiesIn part whole
lies_from part whole h unit c =
    let hit = unit_among part unit (among_from (units_of part) unit c) in
    let there = h unit.is_gpu hit.0 unit.id hit.1 hit.3 in
    contains_from (units_of whole) unit (among_unit whole unit (there.0, there.1, there.2 ∙ hit.2, there.3))

pub lies_at : (part whole : List Node) → LiesIn part whole → (gpu : Bool) (node : Node) (id : ℕ) → Among node part → Among id (kind gpu node) → HasUnit gpu whole node.host id
lies_at part whole inside gpu node id i j =
    let unit = unit_at gpu node.host id in
    unit_among whole unit (among_from (units_of whole) unit (inside unit (contains_from (units_of part) unit (among_unit part unit (node, i, refl, j)))))

-- what is left of hosts are their units that aren't taken
pub kind_free : (gpu : Bool) (taken : List Node) (g : Node) (id : ℕ) → Among id (kind gpu (without_nodes taken g)) → Among id (kind gpu g) × (has_unit (kind gpu) taken g.host id ≡ false)
kind_free gpu taken g id i =
    let left : Among id (left_on (kind gpu) taken g) = subst (λ ids. Among id ids) (kind_left gpu taken g) i in
    let kept = among_filter (λ id. not (has_unit (kind gpu) taken g.host id)) (kind gpu g) id left in
    (kept.0, not-true (has_unit (kind gpu) taken g.host id) kept.1)

pub unit_left : (gpu : Bool) (grant taken : List Node) (host : List ℕ) (id : ℕ) → HasUnit gpu (map (without_nodes taken) grant) host id → HasUnit gpu grant host id × (has_unit (kind gpu) taken host id ≡ false)
unit_left gpu grant taken host id h =
    let from = among_map (without_nodes taken) grant h.0 h.1 in
    let name : from.0.host ≡ host = ap (λ n. n.host) from.2 ∙ h.2 in
    let left = kind_free gpu taken from.0 id (subst (λ n. Among id (kind gpu n)) (sym from.2) h.3) in
    ((from.0, from.1, name, left.0), subst (λ h. has_unit (kind gpu) taken h id ≡ false) name left.1)

pub left_unit : (gpu : Bool) (grant taken : List Node) (host : List ℕ) (id : ℕ) → HasUnit gpu grant host id → has_unit (kind gpu) taken host id ≡ false → HasUnit gpu (map (without_nodes taken) grant) host id
left_unit gpu grant taken host id h e =
    let left : Among id (left_on (kind gpu) taken h.0) = among_kept (λ id. not (has_unit (kind gpu) taken h.0.host id)) (kind gpu h.0) id h.3 (ap (λ n. not (has_unit (kind gpu) taken n id)) h.2 ∙ ap not e) in
    (without_nodes taken h.0, among_mapped (without_nodes taken) grant h.0 h.1, h.2, subst (λ ids. Among id ids) (sym (kind_left gpu taken h.0)) left)
