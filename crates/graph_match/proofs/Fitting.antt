-- What first fit gives lies within the free hosts, by rank and name, and stays free of what live jobs hold.
use Rattle.std.proofs.Common.{◌≡◌, ◌≢◌, ℕ, suc, ◌+◌, ◌-◌, ◌<◌, ◌≤◌, min, Bool, true, false, cond, not, ◌&&◌, ◌||◌, eqb, ltb, inl, inr, List, [], ◌∷◌, ◌++◌, length, get_or, take, drop, map, Some, refl, sym, ap, ◌∙◌, subst, arith}
use Rattle.std.specs.Prelude.{◌↔◌, All, filter, IfOk, Result, Ok, Err}
use Rattle.std.specs.List.{AllByRecursion as Each, HoldsAt}
use Rattle.std.specs.Str.{bytes_eq}
use Rattle.std.proofs.lemmas.Bool.{cases_lt, and_parts, le-ltb, lt-ltb, ltb-true, not-true, true≢false}
use Rattle.std.proofs.lemmas.List.Elements.{All-from_recursion, recursion_from_All, All-map}
use Rattle.idset.specs.Ids.{has}
use Rattle.job_spec.specs.declared.spec.JobSpec.{JobSpec}
use Rattle.job_rules.specs.declared.hold.Hold.{Hold}
use Rattle.resource_set.specs.declared.node.Node.{Node}
use Rattle.resource_set.specs.Units.{AreDistinct, AreHosts}
use Rattle.job_rules.specs.Fits.{AreApart, AreBlockers, AreLive, AreWithin, CanFit, HasIdSets, IsGrant, IsPartOf, IsSpec, IsWithin, NeverFits, end_of, first_fit, free_of, has_unit, nodes_of, sooner, without_nodes}
use Rattle.job_rules.specs.Worths.{give_as, total, wanted, worth}
use Rattle.job_rules.proofs.Among.{Among, Distinct, among_from, among_has, among_map, among_mapped, any_from, contains_from, distinct_rising, each_at, each_from, has_among}
use Rattle.job_rules.proofs.Counts.{enough, not_found, picked, picks}
use Rattle.job_rules.proofs.Few.{bytes_same, hosts_of}
use Rattle.job_rules.proofs.UnitKinds.{apart_from, kind, kind_free, kind_part, part_from, unit_left}
use Rattle.job_rules.proofs.Sets.{IsFree, IsPiece, among_picked, can_fit_enough, enough_can_fit, free_is, grant_is, picks_set, piece}
use Rattle.graph_match.specs.declared.place.Place.{Place}
use Rattle.graph_match.specs.declared.spot.Spot.{Spot}
use Rattle.graph_match.specs.Allotment.{Allotment}
use Rattle.resource_set.specs.declared.node.Resources.{Resources}
use Rattle.graph_match.specs.Answers.{Answers, AreFirstFit, IsBlocked, NamesBlockers}
use Rattle.graph_match.specs.declared.fit.Fit.{Fit}
use Rattle.graph_match.specs.declared.fit.Fit.TheVariants.{Units, Busy, Never}
use Rattle.graph_match.specs.Holds.{IsNew, with_hold, without_hold}
use Rattle.graph_match.specs.Kept.{IsKept, IsMarked}
use Rattle.graph_match.specs.Places.{after_each, free_node, fresh_place, marked_place, node_of}
use Rattle.graph_match.specs.Spots.{marked_at}
use Rattle.graph_match.proofs.Spots.{MarksBy, Rising, marks_fresh, marks_same, rising_earlier, rising_of, rising_small}
use Rattle.graph_match.proofs.Hosts.{after_node, after_nodes, free_places, fresh_nodes, marks_after}
use Rattle.graph_match.proofs.Holds.{RiseFrom, apart_filter, apart_with, has_with, has_without, ids_of, inserted, removed, rise_filter, rise_of, rise_with, rises}

abbrev ranks_of : List Node → List ℕ
ranks_of nodes = map (λ node. node.rank) nodes

rising_rises : (n : ℕ) (xs : List ℕ) → Rising n xs → RiseFrom n xs
rising_rises n [] r = tt
rising_rises n (x ∷ xs) r = (r.0, rising_rises (x + 1) xs r.2)

small_mapped : (nodes : List Node) → All (λ id. id < 65536) (ranks_of nodes) → All (λ node. node.rank < 65536) nodes
small_mapped nodes a = all_unmapped nodes (recursion_from_All (λ id. id < 65536) (ranks_of nodes) a)
  where
    each_unmapped : (ns : List Node) → Each (λ id. id < 65536) (ranks_of ns) → Each (λ node. node.rank < 65536) ns
    each_unmapped [] e = tt
    each_unmapped (n ∷ ns) e = (e.0, each_unmapped ns e.1)

    all_unmapped : (ns : List Node) → Each (λ id. id < 65536) (ranks_of ns) → All (λ node. node.rank < 65536) ns
    all_unmapped ns e = All-from_recursion (λ node. node.rank < 65536) ns (each_unmapped ns e)

pub ranks_rising : (nodes : List Node) → AreHosts nodes → Rising 0 (ranks_of nodes)
ranks_rising nodes h = rising_of 0 (ranks_of nodes) (λ w. omega arith) h.rising (All-map (λ id. id < 65536) (λ node. node.rank) nodes h.small)

pub picked_ranks : (w : Node → ℕ) (give : ℕ → Node → Node) (n left : ℕ) (free : List Node) → ((k : ℕ) (f : Node) → (give k f).rank ≡ f.rank) → Rising n (ranks_of free) → Rising n (ranks_of (picked w give left free))
picked_ranks w give n left [] h r = tt
picked_ranks w give n left (f ∷ fs) h r = at (eqb (min left (w f)) 0) (picked_ranks w give (f.rank + 1) (left - min left (w f)) fs h r.2)
  where
    here : (give (min left (w f)) f).rank ≡ f.rank
    here = h (min left (w f)) f

    at : (b : Bool) → Rising (f.rank + 1) (ranks_of (picked w give (left - min left (w f)) fs)) → Rising n (ranks_of (cond b (picked w give (left - min left (w f)) fs) (give (min left (w f)) f ∷ picked w give (left - min left (w f)) fs)))
    at true more = rising_earlier n (f.rank + 1) (ranks_of (picked w give (left - min left (w f)) fs)) (omega (arith, r.0)) more
    at false more = (omega (arith, r.0, here), omega (arith, r.1, here), subst (λ k. Rising (k + 1) (ranks_of (picked w give (left - min left (w f)) fs))) (sym here) more)

pub are_hosts : (nodes : List Node) → Rising 0 (ranks_of nodes) → AreDistinct (hosts_of nodes) → AreHosts nodes
are_hosts nodes r d = record {
  rising = rises 0 (ranks_of nodes) (rising_rises 0 (ranks_of nodes) r);
  small = small_mapped nodes (rising_small 0 (ranks_of nodes) r);
  hosts = d;
}

same_ranks : (taken : List Node) (grant : List Node) → ranks_of (map (without_nodes taken) grant) ≡ ranks_of grant
same_ranks taken [] = refl
same_ranks taken (g ∷ gs) = ap (λ rs. g.rank ∷ rs) (same_ranks taken gs)

piece_part : (f node : Node) → IsPiece f node → IsPartOf node f
piece_part f node p = part_from node f p.rank p.host (λ gpu id e. among_has (kind gpu f) id (p.ids gpu id (has_among (kind gpu node) id e)))

pub picks_within : (spec : JobSpec) (grant taken : List Node) (left : ℕ) → IsGrant grant → AreWithin (picks spec grant left (map (without_nodes taken) grant)) (map (without_nodes taken) grant)
picks_within spec grant taken left is =
    let free : List Node = map (without_nodes taken) grant in
    let f : IsFree grant free = free_is grant taken is in
    let ranks : Rising 0 (ranks_of free) = subst (Rising 0) (sym (same_ranks taken grant)) (ranks_rising grant is.hosts) in
    record {
      hosts = are_hosts (picks spec grant left free) (picked_ranks (worth spec grant) (give_as spec.nodes spec) 0 left free (λ k h. (piece spec.nodes spec k h).rank) ranks) (picks_set spec grant free f left).hosts;
      inside = each_from (IsWithin free) (picks spec grant left free) (λ node i.
          let hit = among_picked (worth spec grant) (give_as spec.nodes spec) left free node i in
          (hit.0, contains_from free hit.0 hit.2, subst (λ n. IsPartOf n hit.0) hit.3 (piece_part hit.0 (give_as spec.nodes spec hit.1 hit.0) (piece spec.nodes spec hit.1 hit.0))));
    }

-- ---- never
pub never_is : (spec : JobSpec) (grant : List Node) (b : Bool) → IsSpec spec → IsGrant grant → b ≡ ltb (total (worth spec grant) grant) (wanted spec) → (b ≡ true) ↔ NeverFits spec grant
never_is spec grant b s g e = (
  λ t can.
      let few : total (worth spec grant) grant < wanted spec = ltb-true (total (worth spec grant) grant) (wanted spec) (sym e ∙ t) in
      let many : wanted spec ≤ total (worth spec grant) grant = can_fit_enough spec grant grant s (grant_is grant g) can in
      omega (arith, few, many),
  λ never. elim (cases_lt (total (worth spec grant) grant) (wanted spec)) [
    | inl few ↦ e ∙ lt-ltb (total (worth spec grant) grant) (wanted spec) few
    | inr many ↦ absurd (never (enough_can_fit spec grant grant (grant_is grant g) s many))
  ],
)

-- ---- room
pub room_is : (spec : JobSpec) (places : List Place) (live : List Hold) (b : Bool) → IsSpec spec → IsKept places live → b ≡ ltb (total (worth spec (map node_of places)) (map free_node places)) (wanted spec) → (not b ≡ true) ↔ CanFit spec (map node_of places) (free_of (map node_of places) live)
room_is spec places live b s k e = (
  λ t. elim (cases_lt sum (wanted spec)) [
    | inl few ↦ absurd (true≢false (sym (same ∙ lt-ltb sum (wanted spec) few) ∙ not-true b t))
    | inr many ↦ enough_can_fit spec grant free (free_is grant (nodes_of live) k.grant) s many
  ],
  λ can.
      let many : wanted spec ≤ sum = can_fit_enough spec grant free s (free_is grant (nodes_of live) k.grant) can in
      ap not (same ∙ le-ltb sum (wanted spec) many),
)
  where
    grant : List Node
    grant = map node_of places

    free : List Node
    free = free_of grant live

    sum : ℕ
    sum = total (worth spec grant) free

    same : b ≡ ltb sum (wanted spec)
    same = e ∙ ap (λ fs. ltb (total (worth spec grant) fs) (wanted spec)) (free_places (nodes_of live) places k.marks)

-- ---- a graph of a grant that is free
pub fresh_kept : (nodes : List Node) (places : List Place) (live : List Hold) → AreHosts nodes → All HasIdSets nodes → places ≡ map fresh_place nodes → live ≡ [] → IsKept places live
fresh_kept nodes places live h s e l = subst (λ ps. IsKept ps live) (sym e) (subst (IsKept (map fresh_place nodes)) (sym l) kept)
  where
    marks : (ns : List Node) → Each (IsMarked []) (map fresh_place ns)
    marks [] = tt
    marks (n ∷ ns) = ((marks_fresh n.cores, marks_fresh n.gpus), marks ns)

    kept : IsKept (map fresh_place nodes) []
    kept = record {
      grant = subst IsGrant (sym (fresh_nodes nodes)) (record { hosts = h; sets = recursion_from_All HasIdSets nodes s });
      live = record { rising = λ k w. (let no : ⊥ = omega (arith, w) in absurd no); within = tt; apart = tt };
      marks = marks nodes;
    }

-- ---- one more job
within_grant : (taken grant : List Node) (node : Node) → IsWithin (map (without_nodes taken) grant) node → IsWithin grant node
within_grant taken grant node h =
    let hit = among_map (without_nodes taken) grant h.0 (among_from (map (without_nodes taken) grant) h.0 h.1) in
    let left : Node = without_nodes taken hit.0 in
    let part : IsPartOf node left = subst (IsPartOf node) (sym hit.2) h.2 in
    let whole = part_from node hit.0 part.rank part.host (λ gpu id e. among_has (kind gpu hit.0) id (kind_free gpu taken hit.0 id (has_among (kind gpu left) id (kind_part gpu node left part id e))).0) in
    (hit.0, contains_from grant hit.0 hit.1, whole)

pub are_within_grant : (taken grant nodes : List Node) → AreWithin nodes (map (without_nodes taken) grant) → AreWithin nodes grant
are_within_grant taken grant nodes w = record {
  hosts = w.hosts;
  inside = each_from (IsWithin grant) nodes (λ node i. within_grant taken grant node (each_at (IsWithin (map (without_nodes taken) grant)) nodes node w.inside i));
}

pub free_of_others : (taken grant nodes : List Node) → AreWithin nodes (map (without_nodes taken) grant) → AreApart nodes taken
free_of_others taken grant nodes w = apart_from nodes taken (λ gpu host id e.
    let hit = any_from (λ n. bytes_eq n.host host && has (kind gpu n) id) nodes e in
    let parts = and_parts (bytes_eq hit.0.host host) (has (kind gpu hit.0) id) hit.2 in
    let home = each_at (IsWithin (map (without_nodes taken) grant)) nodes hit.0 w.inside hit.1 in
    let there = among_from (map (without_nodes taken) grant) home.0 home.1 in
    let unit = has_among (kind gpu home.0) id (kind_part gpu hit.0 home.0 home.2 id parts.1) in
    (unit_left gpu grant taken host id (home.0, there, sym home.2.host ∙ bytes_same hit.0.host host parts.0, unit)).1)

each_with : (P : Hold → Type 0) (hold : Hold) (holds : List Hold) → P hold → Each P holds → Each P (with_hold hold holds)
each_with P hold [] h e = (h, tt)
each_with P hold (x ∷ xs) h e = at (ltb hold.id x.id) (each_with P hold xs h e.1)
  where
    at : (t : Bool) → Each P (with_hold hold xs) → Each P (cond t (hold ∷ x ∷ xs) (x ∷ with_hold hold xs))
    at true more = (h, e)
    at false more = (e.0, more)

each_filter : (P : Hold → Type 0) (p : Hold → Bool) (holds : List Hold) → Each P holds → Each P (filter p holds)
each_filter P p [] e = tt
each_filter P p (x ∷ xs) e = at (p x) (each_filter P p xs e.1)
  where
    at : (t : Bool) → Each P (filter p xs) → Each P (cond t (x ∷ filter p xs) (filter p xs))
    at true more = (e.0, more)
    at false more = more

pub not_among : (id : ℕ) (holds : List Hold) → IsNew id holds → (h : Hold) → Among h holds → h.id ≢ id
not_among id holds new h i e = new (contains_from (ids_of holds) id (subst (λ n. Among n (ids_of holds)) e (among_mapped (λ h. h.id) holds h i)))

-- what is kept once the marks follow what jobs hold
kept_after : (free : Bool) (nodes : List Node) (places : List Place) (live after : List Hold) → IsKept places live → AreLive (map node_of places) after
    → ((gpu : Bool) (host : List ℕ) (id : ℕ) → cond (has_unit (kind gpu) nodes host id) (not free) (has_unit (kind gpu) (nodes_of live) host id) ≡ has_unit (kind gpu) (nodes_of after) host id)
    → IsKept (map (after_each free nodes) places) after
kept_after free nodes places live after k alive held = record {
  grant = subst IsGrant (sym same) k.grant;
  live = subst (λ grant. AreLive grant after) (sym same) alive;
  marks = marks places k.marks;
}
  where
    same : map node_of (map (after_each free nodes) places) ≡ map node_of places
    same = after_nodes free nodes places

    one : (gpu : Bool) (spots : Place → List Spot) → ((node : Node) (place : Place) → spots (marked_place free node place) ≡ map (marked_at free (kind gpu node)) (spots place))
        → (place : Place) → MarksBy (λ id. has_unit (kind gpu) (nodes_of live) place.host id) (spots place) → MarksBy (λ id. has_unit (kind gpu) (nodes_of after) (after_each free nodes place).host id) (spots (after_each free nodes place))
    one gpu spots marked place m = subst (λ h. MarksBy (λ id. has_unit (kind gpu) (nodes_of after) h id) (spots (after_each free nodes place))) (sym (ap (λ n. n.host) (after_node free nodes place)))
        (marks_same (λ id. cond (has_unit (kind gpu) nodes place.host id) (not free) (has_unit (kind gpu) (nodes_of live) place.host id)) (λ id. has_unit (kind gpu) (nodes_of after) place.host id) (spots (after_each free nodes place)) (held gpu place.host)
        (marks_after free (kind gpu) spots marked (λ id. has_unit (kind gpu) (nodes_of live) place.host id) nodes place place.host refl m))

    marks : (ps : List Place) → Each (IsMarked (nodes_of live)) ps → Each (IsMarked (nodes_of after)) (map (after_each free nodes) ps)
    marks [] m = tt
    marks (p ∷ ps) m = ((one false (λ x. x.cores) (λ n x. refl) p m.0.0, one true (λ x. x.gpus) (λ n x. refl) p m.0.1), marks ps m.1)

cond_or : (a b : Bool) → cond a true b ≡ (a || b)
cond_or true b = refl
cond_or false b = refl

cond_and : (a b : Bool) → cond a false b ≡ (b && not a)
cond_and true true = refl
cond_and true false = refl
cond_and false true = refl
cond_and false false = refl

pub held_kept : (places : List Place) (live : List Hold) (hold : Hold) → IsKept places live → IsNew hold.id live → AreWithin hold.nodes (free_of (map node_of places) live) → IsKept (map (after_each false hold.nodes) places) (with_hold hold live)
held_kept places live hold k new w = kept_after false hold.nodes places live (with_hold hold live) k (record {
  rising = rises 0 (ids_of (with_hold hold live)) (rise_with 0 hold live (rise_of 0 (ids_of live) (λ u. omega arith) k.live.rising) (omega arith) (not_among hold.id live new));
  within = each_with (λ h. AreWithin h.nodes (map node_of places)) hold live (are_within_grant (nodes_of live) (map node_of places) hold.nodes w) k.live.within;
  apart = apart_with hold live (free_of_others (nodes_of live) (map node_of places) hold.nodes w) k.live.apart;
}) (λ gpu host id. cond_or (has_unit (kind gpu) hold.nodes host id) (has_unit (kind gpu) (nodes_of live) host id) ∙ sym (has_with (kind gpu) hold live host id))

-- ---- one less
pub left_kept : (places : List Place) (live : List Hold) (hold : Hold) → IsKept places live → Among hold live → Distinct (ids_of live) → IsKept (map (after_each true hold.nodes) places) (without_hold hold.id live)
left_kept places live hold k i d = kept_after true hold.nodes places live (without_hold hold.id live) k (record {
  rising = rises 0 (ids_of (without_hold hold.id live)) (rise_filter (λ h. not (eqb h.id hold.id)) 0 live (rise_of 0 (ids_of live) (λ u. omega arith) k.live.rising));
  within = each_filter (λ h. AreWithin h.nodes (map node_of places)) (λ h. not (eqb h.id hold.id)) live k.live.within;
  apart = apart_filter (λ h. not (eqb h.id hold.id)) live k.live.apart;
}) (λ gpu host id. cond_and (has_unit (kind gpu) hold.nodes host id) (has_unit (kind gpu) (nodes_of live) host id) ∙ has_without gpu live hold host id d k.live.apart i)

-- ---- what the calls leave, in the terms of what they read
abbrev pub allot : List Node → ℕ → List Hold → Allotment
allot grant expiration live = record { grant = grant; expiration = expiration; live = live }

pub fresh_view : (nodes seen : List Node) (places : List Place) → places ≡ map fresh_place seen → seen ≡ nodes → map node_of places ≡ nodes
fresh_view nodes seen places e s = ap (map node_of) e ∙ fresh_nodes seen ∙ s

pub record IsChange (places places' : List Place) (live' to : List Hold) : Type 0 where
  pub kept : IsKept places' live'
  pub grant : map node_of places' ≡ map node_of places
  pub live : live' ≡ to

pub take_change : (places places' : List Place) (live live' : List Hold) (hold : Hold) (seen : List Node) (at : ℕ) → IsKept places live → IsNew hold.id live → AreWithin hold.nodes (free_of (map node_of places) live) → Each (λ h. h.id < hold.id) (take at live) → Each (λ h. hold.id ≤ h.id) (drop at live) → places' ≡ map (after_each false seen) places → seen ≡ hold.nodes → live' ≡ take at live ++ hold ∷ drop at live → IsChange places places' live' (with_hold hold live)
take_change places places' live live' hold seen at k new w b a p s l =
    let placed : places' ≡ map (after_each false hold.nodes) places = p ∙ ap (λ ns. map (after_each false ns) places) s in
    let lived : live' ≡ with_hold hold live = l ∙ inserted hold at live b a (not_among hold.id live new) in
    record {
      kept = subst (λ ps. IsKept ps live') (sym placed) (subst (IsKept (map (after_each false hold.nodes) places)) (sym lived) (held_kept places live hold k new w));
      grant = ap (map node_of) placed ∙ after_nodes false hold.nodes places;
      live = lived;
    }

pub give_change : (places places' : List Place) (live live' : List Hold) (hold : Hold) (seen : List Node) (at id : ℕ) → IsKept places live → at < length live → hold ≡ get_or live at hold → hold.id ≡ id → places' ≡ map (after_each true seen) places → seen ≡ hold.nodes → live' ≡ take at live ++ drop (suc at) live → IsChange places places' live' (without_hold id live)
give_change places places' live live' hold seen at id k h q e p s l =
    let distinct : Distinct (ids_of live) = distinct_rising (ids_of live) k.live.rising in
    let placed : places' ≡ map (after_each true hold.nodes) places = p ∙ ap (λ ns. map (after_each true ns) places) s in
    let lived : live' ≡ without_hold hold.id live = l ∙ removed hold.id at live hold distinct h (ap (λ x. x.id) (sym q)) in
    let among : Among hold live = among_from live hold (at, h, sym q) in
    record {
      kept = subst (λ ps. IsKept ps live') (sym placed) (subst (IsKept (map (after_each true hold.nodes) places)) (sym lived) (left_kept places live hold k among distinct));
      grant = ap (map node_of) placed ∙ after_nodes true hold.nodes places;
      live = lived ∙ ap (λ n. without_hold n live) e;
    }

pub hold_id : (seen live : List Hold) (at id : ℕ) (hold : Hold) → seen ≡ live → HoldsAt (λ h. h.id ≡ id) seen at → hold ≡ get_or live at hold → hold.id ≡ id
hold_id seen live at id hold e h q = ap (λ x. x.id) (q ∙ ap (λ hs. get_or hs at hold) (sym e)) ∙ h hold

pub hold_in : (seen live : List Hold) (at : ℕ) → seen ≡ live → at < length seen → at < length live
hold_in seen live at e h = subst (λ hs. at < length hs) e h

pub hold_within : (places : List Place) (live : List Hold) (hold : Hold) (seen : List Node) (at : ℕ) → IsKept places live → at < length live → hold ≡ get_or live at hold → seen ≡ hold.nodes → Each (IsWithin (map node_of places)) seen
hold_within places live hold seen at k h q s = subst (Each (IsWithin (map node_of places))) (sym s) (each_at (λ h. AreWithin h.nodes (map node_of places)) live hold k.live.within (among_from live hold (at, h, sym q))).inside

abbrev pub new_hold : ℕ → List Node → Hold
new_hold id nodes = record { id = id; nodes = nodes }

-- ---- what fit answers
pub blocked_is : (spec : JobSpec) (places seen seen' : List Place) (live live' : List Hold) (expiration : ℕ) (v : Allotment) (fit : Fit) (now : ℕ) (busy : Bool) → seen ≡ places → seen' ≡ places → live' ≡ live → allot (map node_of places) expiration live ≡ v → IsKept places live → busy ≡ ltb (total (worth spec (map node_of seen)) (map free_node seen)) (wanted spec) → busy ≡ true → (NeverFits spec v.grant → ⊥) → NamesBlockers spec (map node_of seen') live' fit → Answers v spec now fit
blocked_is spec places seen seen' live live' expiration v (Busy ids) now busy s s' l is k b t some blockers = subst (λ x. IsBlocked x spec ids) is (record {
  none = not_found spec (map node_of places) (map (without_nodes (nodes_of live)) (map node_of places)) few;
  some = subst (λ x. NeverFits spec x.grant → ⊥) (sym is) some;
  blockers = subst (λ hs. AreBlockers spec (map node_of places) hs ids) l (subst (λ ps. AreBlockers spec (map node_of ps) live' ids) s' blockers);
})
  where
    few : total (worth spec (map node_of places)) (map (without_nodes (nodes_of live)) (map node_of places)) < wanted spec
    few = ltb-true _ (wanted spec) (sym (ap (λ fs. ltb (total (worth spec (map node_of places)) fs) (wanted spec)) (free_places (nodes_of live) places k.marks)) ∙ sym (ap (λ ps. ltb (total (worth spec (map node_of ps)) (map free_node ps)) (wanted spec)) s) ∙ sym b ∙ t)
blocked_is spec places seen seen' live live' expiration v (Units units) now busy s s' l is k b t some blockers = absurd blockers
blocked_is spec places seen seen' live live' expiration v Never now busy s s' l is k b t some blockers = absurd blockers

-- what holds of a value, if there is one, follows from what is known of it
pub ok_so : {T E : Type 0} (P Q : T → Type 0) → ((x : T) → P x → Q x) → (r : Result T E) → IfOk r P → IfOk r Q
ok_so P Q by (Ok x) p = by x p
ok_so P Q by (Err e) p = p

pub fitting_is : (spec : JobSpec) (places seen : List Place) (live : List Hold) (expiration now : ℕ) (v : Allotment) (nodes : List Node) (units : Resources) → seen ≡ places → allot (map node_of places) expiration live ≡ v → IsKept places live → first_fit spec (map node_of seen) (map free_node seen) ≡ Some nodes → units ≡ record { nodes = nodes; starttime = now; expiration = sooner (end_of spec now) expiration } → AreFirstFit v spec now units
fitting_is spec places seen live expiration now v nodes units s is k f e = subst (λ x. AreFirstFit v spec now x) (sym e) (subst (λ x. AreFirstFit x spec now (record { nodes = nodes; starttime = now; expiration = sooner (end_of spec now) expiration })) is (record {
  nodes = fit;
  start = refl;
  end = refl;
  free = subst (λ ns. AreWithin ns (map (without_nodes (nodes_of live)) (map node_of places))) (sym (enough spec (map node_of places) (map (without_nodes (nodes_of live)) (map node_of places)) nodes fit).1) (picks_within spec (map node_of places) (nodes_of live) (wanted spec) k.grant);
}))
  where
    fit : first_fit spec (map node_of places) (map (without_nodes (nodes_of live)) (map node_of places)) ≡ Some nodes
    fit = ap (first_fit spec (map node_of places)) (sym (free_places (nodes_of live) places k.marks)) ∙ ap (λ ps. first_fit spec (map node_of ps) (map free_node ps)) (sym s) ∙ f
