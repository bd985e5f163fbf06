-- Units of hosts, as the rules count them and as resources have them.
use Rattle.std.proofs.Common.{◌≡◌, ℕ, Bool, true, List, map, refl, sym, ◌∙◌, subst, true≢false}
use Rattle.std.specs.Prelude.{◌&&◌, Contains, IfSome, None}
use Rattle.std.specs.Str.{bytes_eq}
use Rattle.std.proofs.lemmas.Bool.{and_parts, false_from_ne_true}
use Rattle.idset.specs.Ids.{has}
use Rattle.job_spec.specs.declared.spec.JobSpec.{JobSpec}
use Rattle.job_spec.specs.Sound.{IsCount, IsSpec as IsRead}
use Rattle.resource_set.specs.declared.node.Node.{Node}
use Rattle.resource_set.specs.Units.{IsDifference, LiesIn, ResourceUnit, core_of, gpu_of, units_of, units_of_node}
use Rattle.resource_set.specs.Units as units
use Rattle.job_rules.specs.declared.hold.Hold.{Hold}
use Rattle.job_rules.specs.Fits.{AreApart, AreWithin, CanFit, IsGrant, IsSpec, IsWithin, NeverFits, first_fit, free_of, has_unit, nodes_of, without_nodes}
use Rattle.job_rules.proofs.Among.{Among, among_from, among_has, any_at, any_from, contains_from, each_at, has_among}
use Rattle.job_rules.proofs.Few.{bytes_same, same_bytes}
use Rattle.job_rules.proofs.UnitKinds.{among_unit, apart_from, kind, kind_apart, kind_part, left_unit, lies_from, unit_among, unit_at, unit_left}
use Rattle.job_rules.proofs.Sets.{free_is, none_exactly}

-- a node of the list has the unit
has_is : (gpu : Bool) (nodes : List Node) (host : List ℕ) (id : ℕ) → has_unit (kind gpu) nodes host id ≡ true → Among (unit_at gpu host id) (units_of nodes)
has_is gpu nodes host id e =
    let hit = any_from (λ node. bytes_eq node.host host && has (kind gpu node) id) nodes e in
    let parts = and_parts (bytes_eq hit.0.host host) (has (kind gpu hit.0) id) hit.2 in
    among_unit nodes (unit_at gpu host id) (hit.0, hit.1, bytes_same hit.0.host host parts.0, has_among (kind gpu hit.0) id parts.1)

is_had : (gpu : Bool) (nodes : List Node) (host : List ℕ) (id : ℕ) → Among (unit_at gpu host id) (units_of nodes) → has_unit (kind gpu) nodes host id ≡ true
is_had gpu nodes host id i =
    let hit = unit_among nodes (unit_at gpu host id) i in
    any_at (λ node. bytes_eq node.host host && has (kind gpu node) id) nodes hit.0 hit.1
    (rw (same_bytes hit.0.host host hit.2, among_has (kind gpu hit.0) id hit.3) refl)

-- ---- parts of hosts

pub within_lies : (part whole : List Node) → AreWithin part whole → LiesIn part whole
within_lies part whole w = lies_from part whole (λ gpu node id i j.
    let into = each_at (IsWithin whole) part node w.inside i in
    (into.0, among_from whole into.0 into.1, sym into.2.host, has_among (kind gpu into.0) id (kind_part gpu node into.0 into.2 id (among_has (kind gpu node) id j))))

-- ---- units in common

pub apart_units : (a b : List Node) → AreApart a b → units.AreApart a b
apart_units a b apart unit i j =
    let mine = is_had unit.is_gpu a unit.host unit.id (among_from (units_of a) unit i) in
    let other = is_had unit.is_gpu b unit.host unit.id (among_from (units_of b) unit j) in
    true≢false (sym other ∙ kind_apart unit.is_gpu a b apart unit.host unit.id mine)

pub units_apart : (a b : List Node) → units.AreApart a b → AreApart a b
units_apart a b apart = apart_from a b (λ gpu host id e.
    let unit = unit_at gpu host id in
    false_from_ne_true (has_unit (kind gpu) b host id) (λ f. apart unit (contains_from (units_of a) unit (has_is gpu a host id e)) (contains_from (units_of b) unit (has_is gpu b host id f))))

-- ---- what is free

pub free_lies : (grant taken : List Node) → LiesIn (map (without_nodes taken) grant) grant
free_lies grant taken = lies_from (map (without_nodes taken) grant) grant (λ gpu node id i j. (unit_left gpu grant taken node.host id (node, i, refl, j)).0)

pub free_differs : (grant taken : List Node) → IsDifference grant taken (map (without_nodes taken) grant)
free_differs grant taken unit = (less, more)
  where
    less : Contains (units_of (map (without_nodes taken) grant)) unit → Contains (units_of grant) unit × (Contains (units_of taken) unit → ⊥)
    less c =
        let both = unit_left unit.is_gpu grant taken unit.host unit.id (unit_among (map (without_nodes taken) grant) unit (among_from (units_of (map (without_nodes taken) grant)) unit c)) in
        (contains_from (units_of grant) unit (among_unit grant unit both.0), λ held. true≢false (sym (is_had unit.is_gpu taken unit.host unit.id (among_from (units_of taken) unit held)) ∙ both.1))

    more : Contains (units_of grant) unit × (Contains (units_of taken) unit → ⊥) → Contains (units_of (map (without_nodes taken) grant)) unit
    more both =
        let untaken = false_from_ne_true (has_unit (kind unit.is_gpu) taken unit.host unit.id) (λ e. both.1 (contains_from (units_of taken) unit (has_is unit.is_gpu taken unit.host unit.id e))) in
        let left = left_unit unit.is_gpu grant taken unit.host unit.id (unit_among grant unit (among_from (units_of grant) unit both.0)) untaken in
        contains_from (units_of (map (without_nodes taken) grant)) unit (among_unit (map (without_nodes taken) grant) unit left)

-- ---- what never fits

never_now : (spec : JobSpec) (grant : List Node) (live : List Hold) → NeverFits spec grant → CanFit spec grant (free_of grant live) → ⊥
never_now spec grant live never can = never (record {
  nodes = can.nodes;
  set = can.set;
  inside = λ unit c. free_lies grant (nodes_of live) unit (can.inside unit c);
  satisfied = can.satisfied;
})

pub never_first : (spec : JobSpec) (grant : List Node) (live : List Hold) → IsSpec spec → IsGrant grant → NeverFits spec grant → first_fit spec grant (free_of grant live) ≡ None
never_first spec grant live is g never = (none_exactly spec grant (free_of grant live) is (free_is grant (nodes_of live) g)).1 (never_now spec grant live never)

-- ---- jobspecs

pub read_is : (spec : JobSpec) → IsRead spec → IsSpec spec
read_is spec is = record {
  slots = is.slots;
  cores = is.cores;
  gpus = is.gpus;
  nodes = λ count e. (subst (λ o. IfSome o IsCount) e is.nodes).0;
}
