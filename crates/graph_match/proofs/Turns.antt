-- A turn of the loops over hosts and over a job's nodes.
use Rattle.std.proofs.Common.{◌≡◌, ℕ, ◌+◌, ◌-◌, ◌*◌, ◌/◌, ◌<◌, ◌≤◌, min, Bool, true, false, cond, eqb, ltb, leb, inl, inr, List, [], ◌∷◌, ◌++◌, length, get_or, set, take, drop, map, Some, refl, sym, ap, ◌∙◌, subst, arith}
use Rattle.std.specs.Prelude.{All, Contains}
use Rattle.std.specs.List.{AllByRecursion as Each, HoldsAt}
use Rattle.std.specs.List.Sorted.{IsStrictlyIncreasing}
use Rattle.std.proofs.Math.Nat.{div-mul-le_self, mul-le-mul_right}
use Rattle.std.proofs.lemmas.Bool.{cases_lt, cases_order, eqb-true, eq-eqb, ne_eqb, lt-ltb, le-ltb, and_parts, leb-true}
use Rattle.std.proofs.lemmas.List.{at_drop_more, at_drop_all, drop_more, get_or-map, length-map, map-set, set-get_or, append_assoc, append-nil, drop_all, map_more}
use Rattle.std.proofs.lemmas.List.Elements.{All-more}
use Rattle.std.proofs.lemmas.List.Kept.{AllPairs-from_increasing}
use Rattle.job_spec.specs.declared.spec.JobSpec.{JobSpec}
use Rattle.resource_set.specs.declared.node.Node.{Node}
use Rattle.job_rules.specs.Fits.{HasIdSets, IsGrant, IsPartOf, IsSpec, IsWithin}
use Rattle.job_rules.specs.Worths.{give_as, total, wanted, worth}
use Rattle.job_rules.proofs.Among.{Among, Distinct, among_from, among_mapped, contains_from, distinct_from, distinct_rising, each_at, same_image}
use Rattle.job_rules.proofs.Counts.{picks}
use Rattle.job_rules.proofs.Few.{hosts_of}
use Rattle.graph_match.specs.declared.place.Place.{Place}
use Rattle.graph_match.specs.declared.rooms.Room.{Room}
use Rattle.graph_match.specs.Places.{after_each, free_node, fresh_place, marked_place, node_of}
use Rattle.graph_match.specs.Rooms.{has_enough, room_of, slot_count, worth_of, worth_as as worth_in}
use Rattle.graph_match.proofs.Hosts.{marked_node, one_more, place_hosts, place_ranks, worth_is}

-- where an element that was read stands
pub read_among : {A : Type 0} (xs : List A) (i : ℕ) (x : A) → i < length xs → x ≡ get_or xs i x → Among x xs
read_among xs i x h e = among_from xs x (i, h, sym e)

-- ---- a place by its rank
pub ranks_rise : (places : List Place) → IsStrictlyIncreasing (map (λ p. p.rank) places) → (i j : ℕ) (d : Place) → i ≤ j → j < length places → (get_or places i d).rank ≤ (get_or places j d).rank
ranks_rise places r i j d h w = elim (cases_order i j) [
  | inl e ↦ subst (λ k. (get_or places i d).rank ≤ (get_or places k d).rank) e (omega arith)
  | inr o ↦ elim o [
    | inl below ↦
        let pair : get_or (map (λ p. p.rank) places) i 0 < get_or (map (λ p. p.rank) places) j 0 = AllPairs-from_increasing (map (λ p. p.rank) places) r i j 0 below (subst (λ n. j < n) (sym (length-map places (λ p. p.rank))) w) in
        let a : get_or (map (λ p. p.rank) places) i 0 ≡ (get_or places i d).rank = get_or-map (λ p. p.rank) places i d 0 (omega arith) in
        let b : get_or (map (λ p. p.rank) places) j 0 ≡ (get_or places j d).rank = get_or-map (λ p. p.rank) places j d 0 w in
        omega (arith, pair, a, b)
    | inr above ↦ let no : ⊥ = omega (arith, above, h) in absurd no
  ]
]

pub found_place : (places : List Place) (rank place : ℕ) → IsStrictlyIncreasing (map (λ p. p.rank) places) → Contains (map (λ p. p.rank) places) rank → ((k : ℕ) (d : Place) → k < place → k < length places → (get_or places k d).rank < rank) → ((k : ℕ) (d : Place) → place ≤ k → k < length places → rank ≤ (get_or places k d).rank) → (place < length places) × HoldsAt (λ p. p.rank ≡ rank) places place
found_place places rank place r c before after =
    let k = c.0 in
    let w : k < length places = subst (λ n. k < n) (length-map places (λ p. p.rank)) c.1 in
    let at_k : (d : Place) → (get_or places k d).rank ≡ rank = λ d. sym (get_or-map (λ p. p.rank) places k d rank w) ∙ c.2 in
    let d0 : Place = first places k w in
    let reached : place ≤ k = elim (cases_lt k place) [
      | inl below ↦ let no : ⊥ = omega (arith, before k d0 below w, at_k d0) in absurd no
      | inr up ↦ up
    ] in
    let within : place < length places = omega (arith, reached, w) in (
      within,
      λ d. let low : rank ≤ (get_or places place d).rank = after place d (omega arith) within in
          let high : (get_or places place d).rank ≤ (get_or places k d).rank = ranks_rise places r place k d reached w in
          omega (arith, low, high, at_k d),
    )
  where
    first : (ps : List Place) (k : ℕ) → k < length ps → Place
    first [] k h = let no : ⊥ = omega (arith, h) in absurd no
    first (p ∷ ps) k h = p

-- ---- the hosts of a job's nodes
pub places_rise : (places : List Place) → IsGrant (map node_of places) → IsStrictlyIncreasing (map (λ p. p.rank) places)
places_rise places grant = subst IsStrictlyIncreasing (sym (place_ranks places)) grant.hosts.rising

pub inside_at : (places : List Place) (nodes : List Node) (i : ℕ) (node : Node) → Each (IsWithin (map node_of places)) nodes → i < length nodes → node ≡ get_or nodes i node → IsWithin (map node_of places) node
inside_at places nodes i node inside h e = each_at (IsWithin (map node_of places)) nodes node inside (read_among nodes i node h e)

pub node_there : (places : List Place) (node : Node) → IsWithin (map node_of places) node → Contains (map (λ p. p.rank) places) node.rank
node_there places node home =
    let mapped : Among home.0.rank (map (λ n. n.rank) (map node_of places)) = among_mapped (λ n. n.rank) (map node_of places) home.0 (among_from (map node_of places) home.0 home.1) in
    contains_from (map (λ p. p.rank) places) node.rank (subst (λ xs. Among node.rank xs) (sym (place_ranks places)) (subst (λ r. Among r (map (λ n. n.rank) (map node_of places))) (sym home.2.rank) mapped))

-- a node of a job, and the place of its rank, as a turn reads them
pub record IsRead (places : List Place) (node : Node) (at : ℕ) (p : Place) : Type 0 where
  pub grant : IsGrant (map node_of places)
  pub inside : IsWithin (map node_of places) node
  pub there : at < length places
  pub place_is : p ≡ get_or places at p
  pub rank : p.rank ≡ node.rank

module _ {places : List Place} {node : Node} {at : ℕ} {p : Place} (read : IsRead places node at p) where
  read_place : Among (node_of p) (map node_of places)
  read_place = among_mapped node_of places p (read_among places at p read.there read.place_is)

  pub read_within : at < length (map node_of places)
  read_within = subst (λ n. at < n) (sym (length-map places node_of)) read.there

  pub read_is : node_of p ≡ get_or (map node_of places) at (node_of p)
  read_is = ap node_of read.place_is ∙ sym (get_or-map node_of places at p (node_of p) read.there)

  pub read_sets : HasIdSets (node_of p)
  read_sets = each_at HasIdSets (map node_of places) (node_of p) read.grant.sets read_place

  pub read_part : IsPartOf node (node_of p)
  read_part =
      let home = read.inside in
      let ranks : Distinct (map (λ n. n.rank) (map node_of places)) = distinct_rising (map (λ n. n.rank) (map node_of places)) read.grant.hosts.rising in
      let same : home.0 ≡ node_of p = same_image (λ n. n.rank) (map node_of places) home.0 (node_of p) ranks (among_from (map node_of places) home.0 home.1) read_place (sym home.2.rank ∙ sym read.rank) in
      subst (IsPartOf node) same home.2

-- ---- a job's nodes, one after another
pub record IsTurn (free : Bool) (nodes : List Node) (all now : List Place) (i : ℕ) : Type 0 where
  pub done : map (after_each free (drop i nodes)) now ≡ map (after_each free nodes) all
  pub same : map node_of now ≡ map node_of all

pub turn_grant : {free : Bool} {nodes : List Node} {all now : List Place} {i : ℕ} → IsTurn free nodes all now i → IsGrant (map node_of all) → IsGrant (map node_of now)
turn_grant t grant = subst IsGrant (sym t.same) grant

pub turn_inside : {free : Bool} {nodes : List Node} {all now : List Place} {i : ℕ} → IsTurn free nodes all now i → Each (IsWithin (map node_of all)) nodes → Each (IsWithin (map node_of now)) nodes
turn_inside {free} {nodes} t inside = subst (λ hosts. Each (IsWithin hosts) nodes) (sym t.same) inside

pub turn_more : {free : Bool} {nodes : List Node} {all now : List Place} {i : ℕ} {node : Node} {at : ℕ} {p : Place} → IsTurn free nodes all now i → i < length nodes → node ≡ get_or nodes i node → IsRead now node at p → IsTurn free nodes all (set now at (marked_place free node p)) (i + 1)
turn_more {free} {nodes} {all} {now} {i} {node} {at} {p} t h e read = record {
  done =
      ap (λ x. map (after_each free (drop (i + 1) nodes)) (set now at (marked_place free node x))) read.place_is
      ∙ sym (one_more free node (drop (i + 1) nodes) now at p read.there (ap (λ x. x.host) (sym read.place_is) ∙ sym (read_part read).host) hosts)
      ∙ ap (λ ns. map (after_each free ns) now) (ap (λ n. n ∷ drop (i + 1) nodes) e ∙ sym (drop_more nodes i node h))
      ∙ t.done;
  same =
      map-set node_of now at (marked_place free node p)
      ∙ ap (λ n. set (map node_of now) at n) (marked_node free node p ∙ ap node_of read.place_is)
      ∙ sym (map-set node_of now at (get_or now at p))
      ∙ ap (map node_of) (set-get_or now at p)
      ∙ t.same;
}
  where
    hosts : Distinct (map (λ x. x.host) now)
    hosts = subst Distinct (sym (place_hosts now)) (distinct_from (hosts_of (map node_of now)) read.grant.hosts.hosts)

pub turn_done : {free : Bool} {nodes : List Node} {all now : List Place} {i : ℕ} → length nodes ≤ i → IsTurn free nodes all now i → now ≡ map (after_each free nodes) all
turn_done {free} {nodes} {all} {now} {i} h t = sym (none now) ∙ sym (ap (λ ns. map (after_each free ns) now) (drop_none i nodes h)) ∙ t.done
  where
    none : (ps : List Place) → map (after_each free []) ps ≡ ps
    none [] = refl
    none (p ∷ ps) = ap (λ xs. p ∷ xs) (none ps)

    drop_none : (i : ℕ) (ns : List Node) → length ns ≤ i → drop i ns ≡ []
    drop_none i ns h = search (drop_all)

-- ---- what is still lacking after some hosts
abbrev pub IsLacking : (Place → ℕ) → List Place → ℕ → ℕ → ℕ → Type 0
IsLacking w places i lacking asked = lacking - total w (drop i places) ≡ asked - total w places

pub lack_more : (w : Place → ℕ) (places : List Place) (i lacking asked brought : ℕ) (p : Place) → i < length places → p ≡ get_or places i p → brought ≡ w p → IsLacking w places i lacking asked → IsLacking w places (i + 1) (lacking - brought) asked
lack_more w places i lacking asked brought p h e b l =
    let split : total w (drop i places) ≡ w (get_or places i p) + total w (drop (i + 1) places) = at_drop_more (total w) places i p h in
    let here : w (get_or places i p) ≡ brought = sym (b ∙ ap w e) in
    omega (arith, split, here, l)

pub lack_done : (w : Place → ℕ) (places : List Place) (i lacking asked : ℕ) → length places ≤ i → IsLacking w places i lacking asked → ltb 0 lacking ≡ ltb (total w places) asked
lack_done w places i lacking asked h l =
    let none : total w (drop i places) ≡ 0 = at_drop_all (total w) places i h in
    elim (cases_lt (total w places) asked) [
      | inl few ↦ lt-ltb 0 lacking (omega (arith, none, l, few)) ∙ sym (lt-ltb (total w places) asked few)
      | inr many ↦ le-ltb 0 lacking (omega (arith, none, l, many)) ∙ sym (le-ltb (total w places) asked many)
    ]

-- ---- first fit, host by host
abbrev pub IsFitting : JobSpec → List Place → ℕ → ℕ → List Node → Type 0
IsFitting spec places i left nodes = nodes ++ picks spec (map node_of places) left (map free_node (drop i places)) ≡ picks spec (map node_of places) (wanted spec) (map free_node places)

module _ (spec : JobSpec) (places : List Place) (i left : ℕ) (nodes : List Node) (p : Place) (h : i < length places) (e : p ≡ get_or places i p) (here : ℕ) (b : here ≡ min left (worth spec (map node_of places) (free_node p))) (f : IsFitting spec places i left nodes) where
  -- what the hosts behind give, and the first fit with and without this one
  abbrev behind : ℕ → List Node
  behind still = picks spec (map node_of places) still (map free_node (drop (i + 1) places))

  abbrev with_some : Bool → ℕ → List Node
  with_some none some = cond none (behind (left - some)) (give_as spec.nodes spec some (free_node p) ∷ behind (left - some))

  next : picks spec (map node_of places) left (map free_node (drop i places)) ≡ with_some (eqb here 0) here
  next =
      ap (λ ps. picks spec (map node_of places) left (map free_node ps)) (drop_more places i p h ∙ ap (λ x. x ∷ drop (i + 1) places) (sym e))
      ∙ ap (λ k. with_some (eqb k 0) k) (sym b)

  pub fit_none : here ≤ 0 → IsFitting spec places (i + 1) left nodes
  fit_none z =
      let none : here ≡ 0 = omega (arith, z) in
      let same : left - here ≡ left = omega (arith, none) in
      ap (λ ns. nodes ++ ns) (sym (next ∙ ap (λ t. with_some t here) (eq-eqb here 0 none) ∙ ap behind same)) ∙ f

  pub fit_some : 0 < here → IsFitting spec places (i + 1) (left - here) (nodes ++ give_as spec.nodes spec here (free_node p) ∷ [])
  fit_some z =
      append_assoc nodes (give_as spec.nodes spec here (free_node p) ∷ []) (behind (left - here))
      ∙ ap (λ ns. nodes ++ ns) (sym (next ∙ ap (λ t. with_some t here) (ne_eqb here 0 (λ z'. let no : ⊥ = omega (arith, z, z') in no))))
      ∙ f

pub fit_done : (spec : JobSpec) (places : List Place) (i left : ℕ) (nodes : List Node) → length places ≤ i → IsFitting spec places i left nodes → nodes ≡ picks spec (map node_of places) (wanted spec) (map free_node places)
fit_done spec places i left nodes h f =
    let none : picks spec (map node_of places) left (map free_node (drop i places)) ≡ [] = at_drop_all (λ ps. picks spec (map node_of places) left (map free_node ps)) places i h in
    sym (append-nil nodes) ∙ sym (ap (λ ns. nodes ++ ns) none) ∙ f

-- ---- slots with room take no more than is there
pub slots_fit : (spec : JobSpec) (slots : ℕ) (room : Room) → IsSpec spec → slots ≤ slot_count spec room → (slots * spec.cores ≤ room.cores) × (slots * spec.gpus ≤ room.gpus)
slots_fit spec slots room is h = at (eqb spec.gpus 0) refl h
  where
    times : (part whole : ℕ) → slots ≤ whole / part → slots * part ≤ whole
    times part whole h = let a = mul-le-mul_right part h in let b = div-mul-le_self whole part in omega (arith, a, b)

    at : (b : Bool) → eqb spec.gpus 0 ≡ b → slots ≤ cond b (room.cores / spec.cores) (min (room.cores / spec.cores) (room.gpus / spec.gpus)) → (slots * spec.cores ≤ room.cores) × (slots * spec.gpus ≤ room.gpus)
    at true e h =
        let none : spec.gpus ≡ 0 = eqb-true spec.gpus 0 e in
        let zero_units : slots * spec.gpus ≡ 0 = ap (λ g. slots * g) none ∙ (omega arith) in
        (times spec.cores room.cores h, omega (arith, zero_units))
    at false e h = (times spec.cores room.cores (omega (arith, h)), times spec.gpus room.gpus (omega (arith, h)))

-- a host that brings something as a host has room for the slots
pub serving : (count : ℕ) (spec : JobSpec) (whole room : Room) (here : ℕ) → 1 ≤ here → here ≤ worth_in (Some count) spec whole room → spec.slots ≤ slot_count spec room
serving count spec whole room here h b = at (has_enough spec whole room) refl b
  where
    at : (t : Bool) → has_enough spec whole room ≡ t → here ≤ cond t 1 0 → spec.slots ≤ slot_count spec room
    at true e b = leb-true spec.slots (slot_count spec room) (and_parts (leb spec.slots (slot_count spec room)) _ e).0
    at false e b = let no : ⊥ = omega (arith, h, b) in absurd no

-- ---- what was read, in the terms of the lemmas above
pub rank_at : (seen now : List Place) (at rank : ℕ) (p : Place) → seen ≡ now → HoldsAt (λ x. x.rank ≡ rank) seen at → p ≡ get_or now at p → p.rank ≡ rank
rank_at seen now at rank p e h q = ap (λ x. x.rank) (q ∙ ap (λ ps. get_or ps at p) (sym e)) ∙ h p

pub within_now : (seen now : List Place) (at : ℕ) → seen ≡ now → at < length seen → at < length now
within_now seen now at e h = subst (λ ps. at < length ps) e h

pub fresh_more : (places : List Place) (nodes : List Node) (i : ℕ) (node : Node) (p : Place) → i < length nodes → node ≡ get_or nodes i node → p ≡ fresh_place node → places ≡ map fresh_place (take i nodes) → places ++ p ∷ [] ≡ map fresh_place (take (i + 1) nodes)
fresh_more places nodes i node p h e q l = ap (λ ps. ps ++ p ∷ []) l ∙ ap (λ x. map fresh_place (take i nodes) ++ x ∷ []) (q ∙ ap fresh_place e) ∙ sym (map_more fresh_place nodes i node h)

pub sets_more : (nodes : List Node) (i : ℕ) (node : Node) → i < length nodes → node ≡ get_or nodes i node → HasIdSets node → All HasIdSets (take i nodes) → All HasIdSets (take (i + 1) nodes)
sets_more nodes i node h e s a = All-more HasIdSets nodes i node h a (subst HasIdSets e s)

pub sets_at : (places : List Place) (i : ℕ) (p : Place) → IsGrant (map node_of places) → i < length places → p ≡ get_or places i p → HasIdSets (node_of p)
sets_at places i p grant h e = each_at HasIdSets (map node_of places) (node_of p) grant.sets (among_mapped node_of places p (read_among places i p h e))

-- what a host that was read brings
pub brings_at : (spec : JobSpec) (places : List Place) (i : ℕ) (p : Place) → IsGrant (map node_of places) → i < length places → p ≡ get_or places i p → worth_of spec (room_of (node_of p)) (room_of (free_node p)) ≡ worth spec (map node_of places) (free_node p)
brings_at spec places i p grant h e = worth_is spec (map node_of places) (node_of p) (free_node p) (distinct_from (hosts_of (map node_of places)) grant.hosts.hosts) (among_mapped node_of places p (read_among places i p h e)) refl

-- ---- a sum over hosts
pub sum_more : (w : Place → ℕ) (places : List Place) (i sum brought : ℕ) (p : Place) → i < length places → p ≡ get_or places i p → brought ≡ w p → sum + total w (drop i places) ≡ total w places → sum + brought + total w (drop (i + 1) places) ≡ total w places
sum_more w places i sum brought p h e b l =
    let split : total w (drop i places) ≡ w (get_or places i p) + total w (drop (i + 1) places) = at_drop_more (total w) places i p h in
    let here : w (get_or places i p) ≡ brought = sym (b ∙ ap w e) in
    omega (arith, split, here, l)

pub sum_done : (w : Place → ℕ) (places : List Place) (i sum : ℕ) → length places ≤ i → sum + total w (drop i places) ≡ total w places → sum ≡ total w places
sum_done w places i sum h l = let none : total w (drop i places) ≡ 0 = at_drop_all (total w) places i h in omega (arith, none, l)
