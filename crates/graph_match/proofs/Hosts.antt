-- Hosts of a grant: what a job takes of them and gives back, and what of them is free.
use Rattle.std.proofs.Common.{◌≡◌, ◌≢◌, ℕ, suc, zero, ◌+◌, ◌/◌, ◌<◌, min, Bool, true, false, cond, not, ◌&&◌, ◌||◌, eqb, leb, inl, inr, List, [], ◌∷◌, length, get_or, set, map, Option, Some, None, refl, sym, ap, ◌∙◌, subst, arith}
use Rattle.std.specs.List.{AllByRecursion as Each}
use Rattle.std.specs.Str.{bytes_eq}
use Rattle.std.proofs.lemmas.Bool.{and_parts, and_from}
use Rattle.std.proofs.lemmas.List.{get_or_default}
use Rattle.idset.specs.Ids.{has}
use Rattle.job_spec.specs.declared.spec.JobSpec.{JobSpec}
use Rattle.resource_set.specs.declared.node.Node.{Node}
use Rattle.job_rules.specs.Fits.{IsGrant, has_unit, is_wholly_free, without_nodes}
use Rattle.job_rules.specs.Worths.{total, worth, worth_as}
use Rattle.job_rules.proofs.Among.{Among, Distinct, among_from, among_mapped, any_at, any_from, distinct_from, same_image}
use Rattle.job_rules.proofs.Few.{bytes_same, hosts_of, other_bytes, same_bytes}
use Rattle.job_rules.proofs.Sets.{same_node}
use Rattle.graph_match.specs.declared.place.Place.{Place}
use Rattle.graph_match.specs.declared.spot.Spot.{Spot}
use Rattle.graph_match.specs.Kept.{IsMarked}
use Rattle.graph_match.specs.Places.{after_each, at_host, free_node, fresh_place, marked_place, node_of}
use Rattle.graph_match.specs.Rooms.{room_of, worth_of, worth_as as worth_in}
use Rattle.graph_match.specs.Spots.{marked_at}
use Rattle.graph_match.proofs.Spots.{MarksBy, free_left, ids_fresh, ids_marked, marks_marked, marks_same}

-- marks change no host's name, rank or units, only what is free
module _ (free : Bool) where
  pub marked_node : (node : Node) (place : Place) → node_of (marked_place free node place) ≡ node_of place
  marked_node node place = same_node _ _ refl refl (sym (ids_marked free node.cores place.cores)) (sym (ids_marked free node.gpus place.gpus))

  at_host_node : (node : Node) (place : Place) → node_of (at_host free node place) ≡ node_of place
  at_host_node node place = at (bytes_eq node.host place.host)
    where
      at : (b : Bool) → node_of (cond b (marked_place free node place) place) ≡ node_of place
      at true = marked_node node place
      at false = refl

  pub at_host_host : (node : Node) (place : Place) → (at_host free node place).host ≡ place.host
  at_host_host node place = at (bytes_eq node.host place.host)
    where
      at : (b : Bool) → (let p : Place = cond b (marked_place free node place) place in p.host) ≡ place.host
      at true = refl
      at false = refl

  pub after_node : (nodes : List Node) (place : Place) → node_of (after_each free nodes place) ≡ node_of place
  after_node [] place = refl
  after_node (node ∷ nodes) place = after_node nodes (at_host free node place) ∙ at_host_node node place

  pub after_nodes : (nodes : List Node) (places : List Place) → map node_of (map (after_each free nodes) places) ≡ map node_of places
  after_nodes nodes [] = refl
  after_nodes nodes (p ∷ ps) = ap (λ x. x ∷ map node_of (map (after_each free nodes) ps)) (after_node nodes p) ∙ ap (λ xs. node_of p ∷ xs) (after_nodes nodes ps)

  -- the marks at one host's place
  untouched : (node : Node) (ps : List Place) → ((p : Place) → Among p ps → node.host ≢ p.host) → map (at_host free node) ps ≡ ps
  untouched node [] h = refl
  untouched node (p ∷ ps) h =
      ap (λ b. cond b (marked_place free node p) p ∷ map (at_host free node) ps) (other_bytes node.host p.host (h p (inl refl)))
      ∙ ap (λ xs. p ∷ xs) (untouched node ps (λ q i. h q (inr i)))

  pub one_place : (node : Node) (ps : List Place) (at : ℕ) (d : Place) → at < length ps → (get_or ps at d).host ≡ node.host → Distinct (map (λ p. p.host) ps) → map (at_host free node) ps ≡ set ps at (marked_place free node (get_or ps at d))
  one_place node [] at d h e apart = let no : ⊥ = omega (arith, h) in absurd no
  one_place node (p ∷ ps) zero d h e apart =
      ap (λ b. cond b (marked_place free node p) p ∷ map (at_host free node) ps) (same_bytes node.host p.host (sym e))
      ∙ ap (λ xs. marked_place free node p ∷ xs) (untouched node ps (λ q i same. apart.0 q.host (among_mapped (λ p. p.host) ps q i) (e ∙ same)))
  one_place node (p ∷ ps) (suc at) d h e apart =
      let within : at < length ps = omega (arith, h) in
      let far : bytes_eq node.host p.host ≡ false = other_bytes node.host p.host (λ same. apart.0 (get_or ps at d).host (there ps at d within) (sym same ∙ sym e)) in
      ap (λ b. cond b (marked_place free node p) p ∷ map (at_host free node) ps) far ∙ ap (λ xs. p ∷ xs) (one_place node ps at d within e apart.1)
    where
      there : (ps : List Place) (at : ℕ) (d : Place) → at < length ps → Among (get_or ps at d).host (map (λ p. p.host) ps)
      there ps at d h = among_mapped (λ p. p.host) ps (get_or ps at d) (among_from ps (get_or ps at d) (at, h, default ps at d h))
        where
          default : (ps : List Place) (at : ℕ) (d : Place) → at < length ps → get_or ps at (get_or ps at d) ≡ get_or ps at d
          default ps at d h = search (get_or_default)

  composed : (node : Node) (nodes : List Node) (ps : List Place) → map (after_each free (node ∷ nodes)) ps ≡ map (after_each free nodes) (map (at_host free node) ps)
  composed node nodes [] = refl
  composed node nodes (p ∷ ps) = ap (λ xs. after_each free nodes (at_host free node p) ∷ xs) (composed node nodes ps)

  pub one_more : (node : Node) (nodes : List Node) (ps : List Place) (at : ℕ) (d : Place) → at < length ps → (get_or ps at d).host ≡ node.host → Distinct (map (λ p. p.host) ps) → map (after_each free (node ∷ nodes)) ps ≡ map (after_each free nodes) (set ps at (marked_place free node (get_or ps at d)))
  one_more node nodes ps at d h e apart = composed node nodes ps ∙ ap (map (after_each free nodes)) (one_place node ps at d h e apart)

-- what is held after several nodes' units are marked
both_marks : (held t x r : Bool) → cond r held (cond x held t) ≡ cond (x || r) held t
both_marks held t true true = refl
both_marks held t true false = refl
both_marks held t false r = refl

module _ (free : Bool) (kind : Node → List ℕ) (spots : Place → List Spot) (marked : (node : Node) (place : Place) → spots (marked_place free node place) ≡ map (marked_at free (kind node)) (spots place)) where
  marks_once : (t : ℕ → Bool) (node : Node) (place : Place) (host : List ℕ) → place.host ≡ host → MarksBy t (spots place) → MarksBy (λ id. cond (bytes_eq node.host host && has (kind node) id) (not free) (t id)) (spots (at_host free node place))
  marks_once t node place host e m = subst (λ h. MarksBy (λ id. cond (bytes_eq node.host h && has (kind node) id) (not free) (t id)) (spots (at_host free node place))) e (at (bytes_eq node.host place.host))
    where
      at : (b : Bool) → MarksBy (λ id. cond (b && has (kind node) id) (not free) (t id)) (spots (cond b (marked_place free node place) place))
      at true = subst (MarksBy (λ id. cond (has (kind node) id) (not free) (t id))) (sym (marked node place)) (marks_marked free t (kind node) (spots place) m)
      at false = m

  pub marks_after : (t : ℕ → Bool) (nodes : List Node) (place : Place) (host : List ℕ) → place.host ≡ host → MarksBy t (spots place) → MarksBy (λ id. cond (has_unit kind nodes host id) (not free) (t id)) (spots (after_each free nodes place))
  marks_after t [] place host e m = m
  marks_after t (node ∷ nodes) place host e m =
      marks_same (λ id. cond (has_unit kind nodes host id) (not free) (cond (bytes_eq node.host host && has (kind node) id) (not free) (t id))) (λ id. cond (has_unit kind (node ∷ nodes) host id) (not free) (t id)) (spots (after_each free nodes (at_host free node place)))
      (λ id. both_marks (not free) (t id) (bytes_eq node.host host && has (kind node) id) (has_unit kind nodes host id))
      (marks_after (λ id. cond (bytes_eq node.host host && has (kind node) id) (not free) (t id)) nodes (at_host free node place) host (at_host_host free node place ∙ e) (marks_once t node place host e m))

-- what is free of marked hosts
free_place : (taken : List Node) (place : Place) → IsMarked taken place → free_node place ≡ without_nodes taken (node_of place)
free_place taken place m = same_node _ _ refl refl (sym (free_left (λ id. has_unit (λ n. n.cores) taken place.host id) place.cores m.0)) (sym (free_left (λ id. has_unit (λ n. n.gpus) taken place.host id) place.gpus m.1))

pub free_places : (taken : List Node) (places : List Place) → Each (IsMarked taken) places → map free_node places ≡ map (without_nodes taken) (map node_of places)
free_places taken [] m = refl
free_places taken (p ∷ ps) m = ap (λ x. x ∷ map free_node ps) (free_place taken p m.0) ∙ ap (λ xs. without_nodes taken (node_of p) ∷ xs) (free_places taken ps m.1)

pub fresh_nodes : (nodes : List Node) → map node_of (map fresh_place nodes) ≡ nodes
fresh_nodes [] = refl
fresh_nodes (n ∷ ns) = ap (λ x. x ∷ map node_of (map fresh_place ns)) (same_node _ _ refl refl (sym (ids_fresh n.cores)) (sym (ids_fresh n.gpus))) ∙ ap (λ xs. n ∷ xs) (fresh_nodes ns)

pub place_hosts : (places : List Place) → map (λ p. p.host) places ≡ hosts_of (map node_of places)
place_hosts [] = refl
place_hosts (p ∷ ps) = ap (λ xs. p.host ∷ xs) (place_hosts ps)

pub place_ranks : (places : List Place) → map (λ p. p.rank) places ≡ map (λ n. n.rank) (map node_of places)
place_ranks [] = refl
place_ranks (p ∷ ps) = ap (λ xs. p.rank ∷ xs) (place_ranks ps)

-- what a host brings, by its counts
same_test : (a b : Bool) → (a ≡ true → b ≡ true) → (b ≡ true → a ≡ true) → a ≡ b
same_test true true f g = refl
same_test true false f g = sym (f refl)
same_test false true f g = g refl
same_test false false f g = refl

wholly : (grant : List Node) (g f : Node) → Distinct (hosts_of grant) → Among g grant → f.host ≡ g.host → (eqb (length g.cores) (length f.cores) && eqb (length g.gpus) (length f.gpus)) ≡ is_wholly_free grant f
wholly grant g f d i e = same_test _ _
    (λ h. let both = and_parts (eqb (length g.cores) (length f.cores)) (eqb (length g.gpus) (length f.gpus)) h in
    any_at (λ x. bytes_eq x.host f.host && (eqb (length x.cores) (length f.cores)) && (eqb (length x.gpus) (length f.gpus))) grant g i (and_from _ _ (and_from _ _ (same_bytes g.host f.host (sym e)) both.0) both.1))
    (λ h. let hit = any_from (λ x. bytes_eq x.host f.host && (eqb (length x.cores) (length f.cores)) && (eqb (length x.gpus) (length f.gpus))) grant h in
    let parts = and_parts (bytes_eq hit.0.host f.host && (eqb (length hit.0.cores) (length f.cores))) (eqb (length hit.0.gpus) (length f.gpus)) hit.2 in
    let more = and_parts (bytes_eq hit.0.host f.host) (eqb (length hit.0.cores) (length f.cores)) parts.0 in
    let same : hit.0 ≡ g = same_image (λ n. n.host) grant hit.0 g d hit.1 i (bytes_same hit.0.host f.host more.0 ∙ e) in
    and_from _ _ (subst (λ n. eqb (length n.cores) (length f.cores) ≡ true) same more.1) (subst (λ n. eqb (length n.gpus) (length f.gpus) ≡ true) same parts.1))

pub worth_is : (spec : JobSpec) (grant : List Node) (g f : Node) → Distinct (hosts_of grant) → Among g grant → f.host ≡ g.host → worth_of spec (room_of g) (room_of f) ≡ worth spec grant f
worth_is spec grant g f d i e = at spec.nodes
  where
    at : (o : Option ℕ) → worth_in o spec (room_of g) (room_of f) ≡ worth_as o spec grant f
    at None = refl
    at (Some count) = ap (λ b. cond (leb spec.slots (room spec f) && (not spec.exclusive || b)) 1 0) (wholly grant g f d i e)
      where
        room : JobSpec → Node → ℕ
        room spec f = cond (eqb spec.gpus 0) (length f.cores / spec.cores) (min (length f.cores / spec.cores) (length f.gpus / spec.gpus))

module _ (spec : JobSpec) (places : List Place) (grant : IsGrant (map node_of places)) where
  distinct : Distinct (hosts_of (map node_of places))
  distinct = distinct_from (hosts_of (map node_of places)) grant.hosts.hosts

  pub whole_total : (ps : List Place) → ((p : Place) → Among p ps → Among p places) → total (λ p. worth_of spec (room_of (node_of p)) (room_of (node_of p))) ps ≡ total (worth spec (map node_of places)) (map node_of ps)
  whole_total [] h = refl
  whole_total (p ∷ ps) h =
      ap (λ n. n + total (λ p. worth_of spec (room_of (node_of p)) (room_of (node_of p))) ps) (worth_is spec (map node_of places) (node_of p) (node_of p) distinct (among_mapped node_of places p (h p (inl refl))) refl)
      ∙ ap (λ n. worth spec (map node_of places) (node_of p) + n) (whole_total ps (λ q i. h q (inr i)))

  pub free_total : (ps : List Place) → ((p : Place) → Among p ps → Among p places) → total (λ p. worth_of spec (room_of (node_of p)) (room_of (free_node p))) ps ≡ total (worth spec (map node_of places)) (map free_node ps)
  free_total [] h = refl
  free_total (p ∷ ps) h =
      ap (λ n. n + total (λ p. worth_of spec (room_of (node_of p)) (room_of (free_node p))) ps) (worth_is spec (map node_of places) (node_of p) (free_node p) distinct (among_mapped node_of places p (h p (inl refl))) refl)
      ∙ ap (λ n. worth spec (map node_of places) (free_node p) + n) (free_total ps (λ q i. h q (inr i)))
