-- What is free of a grant, what first fit gives of it, and that it gives units wherever some satisfy the job.
use Rattle.std.proofs.Common.{◌≡◌, ◌≢◌, ℕ, suc, zero, ◌-◌, ◌*◌, ◌/◌, ◌<◌, ◌≤◌, min, inl, inr, Bool, true, false, not, ◌&&◌, ◌||◌, cond, eqb, leb, List, [], ◌∷◌, length, take, map, Option, Some, None, option_map, refl, sym, ap, ◌∙◌, subst, arith}
use Rattle.std.specs.Prelude.{◌↔◌, filter, MatchBool, unwrap_or}
use Rattle.std.specs.List.{AllByRecursion as Each}
use Rattle.std.specs.Str.{bytes_eq}
use Rattle.std.proofs.Math.Nat.{mul-div_cancel}
use Rattle.std.proofs.lemmas.Bool.{cases_lt, true≢false, eqb-true, eq-eqb, leb-true, le-leb, and_from, and_parts, or_right, or_left}
use Rattle.std.proofs.lemmas.List.Filters.{length-filter_both}
use Rattle.std.proofs.lemmas.List.{length-map, length-take-le}
use Rattle.job_spec.specs.declared.spec.JobSpec.{JobSpec}
use Rattle.resource_set.specs.declared.node.Node.{Node}
use Rattle.resource_set.specs.Units.{LiesIn, ResourceUnit, core_of, gpu_of, units_of, units_of_node}
use Rattle.job_rules.specs.Fits.{CanFit, HasIdSets, HasSlots, HaveSlots, IsGrant, IsNodeFor, IsSpec, IsUnitSet, IsWholeHost, Satisfies, SatisfiesAs, first_fit, first_fit_as, given_by, has_unit, is_wholly_free, lowest, room_on, serves, without_nodes}
use Rattle.job_rules.proofs.Among.{Among, Distinct, among_filter, among_from, among_map, among_mapped, among_take, any_at, any_from, are_distinct, contains_from, distinct-append, distinct_filter, distinct_from, distinct_mapped, distinct_take, each_at, each_from, same_image}
use Rattle.job_rules.specs.Worths.{give_as, total, worth, worth_as, wanted}
use Rattle.job_rules.proofs.Counts.{picked, picks, enough, found, not_found, too_few}
use Rattle.job_rules.proofs.UnitKinds.{asked, kind, kind_left, kind_lowest, kind_distinct, lies_from, node_among, unit_among}
use Rattle.job_rules.proofs.Few.{IsCovered, IsMatched, bytes_same, covered, few, has_room, hosts_of, same_bytes}
use Rattle.job_rules.proofs.Fits.{slots_on, spread_has}

-- a host with what is left of a host of the grant
pub record IsLeft (grant : List Node) (f : Node) : Type 0 where
  pub whole : Node
  pub among : Among whole grant
  pub rank : f.rank ≡ whole.rank
  pub host : f.host ≡ whole.host
  pub fewer : (gpu : Bool) → length (kind gpu f) ≤ length (kind gpu whole)
  pub all : (gpu : Bool) → length (kind gpu f) ≡ length (kind gpu whole) → kind gpu f ≡ kind gpu whole

abbrev pub HasDistinct : Node → Type 0
HasDistinct f = (gpu : Bool) → Distinct (kind gpu f)

pub record IsFree (grant free : List Node) : Type 0 where
  pub hosts : Distinct (hosts_of free)
  pub of : Distinct (hosts_of grant)
  pub sets : Each HasDistinct free
  pub left : Each (IsLeft grant) free

abbrev node_with : ℕ → List ℕ → List ℕ → List ℕ → Node
node_with rank host cores gpus = record { rank = rank; host = host; cores = cores; gpus = gpus }

pub same_node : (a b : Node) → b.rank ≡ a.rank → b.host ≡ a.host → b.cores ≡ a.cores → b.gpus ≡ a.gpus → a ≡ b
same_node a b r h c g =
    ap (λ x. node_with x a.host a.cores a.gpus) (sym r) ∙ ap (λ x. node_with b.rank x a.cores a.gpus) (sym h) ∙ ap (λ x. node_with b.rank b.host x a.gpus) (sym c) ∙ ap (λ x. node_with b.rank b.host b.cores x) (sym g)

-- a filter that leaves as many leaves all
pub filter_short : (p : ℕ → Bool) (xs : List ℕ) → length (filter p xs) ≤ length xs
filter_short p xs = omega (arith, length-filter_both p (λ x. not (p x)) (λ x. refl) xs)

filter_whole : (p : ℕ → Bool) (xs : List ℕ) → length (filter p xs) ≡ length xs → filter p xs ≡ xs
filter_whole p [] e = refl
filter_whole p (x ∷ xs) e = at (p x) (filter_short p xs) (filter_whole p xs) e
  where
    at : (b : Bool) → length (filter p xs) ≤ length xs → (length (filter p xs) ≡ length xs → filter p xs ≡ xs) → length (cond b (x ∷ filter p xs) (filter p xs)) ≡ suc (length xs) → cond b (x ∷ filter p xs) (filter p xs) ≡ x ∷ xs
    at true h more e = ap (λ ys. x ∷ ys) (more (omega (arith, e)))
    at false h more e = let none : ⊥ = omega (arith, h, e) in absurd none

left_is : (taken : List Node) (grant : List Node) (g : Node) → Among g grant → IsLeft grant (without_nodes taken g)
left_is taken grant g i = record {
  whole = g;
  among = i;
  rank = refl;
  host = refl;
  fewer = λ gpu. subst (λ ids. length ids ≤ length (kind gpu g)) (sym (kind_left gpu taken g)) (filter_short (λ id. not (has_unit (kind gpu) taken g.host id)) (kind gpu g));
  all = λ gpu. subst (λ ids. length ids ≡ length (kind gpu g) → ids ≡ kind gpu g) (sym (kind_left gpu taken g)) (filter_whole (λ id. not (has_unit (kind gpu) taken g.host id)) (kind gpu g));
}

same_hosts : (taken : List Node) (grant : List Node) → hosts_of (map (without_nodes taken) grant) ≡ hosts_of grant
same_hosts taken [] = refl
same_hosts taken (g ∷ gs) = ap (λ hs. g.host ∷ hs) (same_hosts taken gs)

pub free_is : (grant : List Node) (taken : List Node) → IsGrant grant → IsFree grant (map (without_nodes taken) grant)
free_is grant taken is = record {
  hosts = subst Distinct (sym (same_hosts taken grant)) (distinct_from (hosts_of grant) is.hosts.hosts);
  of = distinct_from (hosts_of grant) is.hosts.hosts;
  sets = each_from HasDistinct (map (without_nodes taken) grant) (λ f i. let hit = among_map (without_nodes taken) grant f i in subst HasDistinct hit.2 (kept hit.0 (each_at HasIdSets grant hit.0 is.sets hit.1)));
  left = each_from (IsLeft grant) (map (without_nodes taken) grant) (λ f i. let hit = among_map (without_nodes taken) grant f i in subst (IsLeft grant) hit.2 (left_is taken grant hit.0 hit.1));
}
  where
    kept : (g : Node) → HasIdSets g → HasDistinct (without_nodes taken g)
    kept g sets = λ gpu. subst Distinct (sym (kind_left gpu taken g)) (distinct_filter (λ id. not (has_unit (kind gpu) taken g.host id)) (kind gpu g) (kind_distinct gpu g sets))

pub grant_is : (grant : List Node) → IsGrant grant → IsFree grant grant
grant_is grant is = record {
  hosts = distinct_from (hosts_of grant) is.hosts.hosts;
  of = distinct_from (hosts_of grant) is.hosts.hosts;
  sets = each_from HasDistinct grant (λ g i gpu. kind_distinct gpu g (each_at HasIdSets grant g is.sets i));
  left = each_from (IsLeft grant) grant (λ g i. record { whole = g; among = i; rank = refl; host = refl; fewer = λ gpu. omega arith; all = λ gpu e. refl });
}

-- ---- where some units satisfy the job the free hosts bring enough

slots_of : JobSpec → Node → ℕ
slots_of spec node = length node.cores / spec.cores

some_slots : (spec : JobSpec) (count : ℕ) (nodes : List Node) → IsSpec spec → HaveSlots spec count nodes → (count ≡ total (λ n. length n.cores / spec.cores) nodes) × Each (λ n. (k : ℕ) × HasSlots spec k n) nodes
some_slots spec count [] is h = (h, tt)
some_slots spec count (node ∷ nodes) is h =
    let rest = some_slots spec h.1 nodes is h.4 in
    let some : 0 < spec.cores = omega (arith, is.cores.0) in
    let here : length node.cores / spec.cores ≡ h.0 = ap (λ n. n / spec.cores) h.3.0 ∙ mul-div_cancel h.0 some in
    (omega (arith, h.2, here, rest.0), ((h.0, h.3), rest.1))

total_ones : (nodes : List Node) → total (λ _. 1) nodes ≡ length nodes
total_ones [] = refl
total_ones (node ∷ nodes) = omega (arith, total_ones nodes)

module _ (spec : JobSpec) (grant free : List Node) (is : IsSpec spec) (f : IsFree grant free) where
  product_above : (a b : ℕ) → 1 ≤ a → 1 ≤ b → 1 ≤ a * b
  product_above a b h k = grind arith

  -- a host of the set with so many slots: the free host of its name has room for as many
  roomy : (nodes : List Node) (node : Node) → IsUnitSet nodes → LiesIn nodes free → Among node nodes → (count : ℕ) → 1 ≤ count → ((gpu : Bool) → count * asked gpu spec ≤ length (kind gpu node)) → (hit : IsCovered free node) × (count ≤ room_on spec hit.free_host)
  roomy nodes node set inside i count some h =
      let positive : 1 ≤ count * spec.cores = product_above count spec.cores some is.cores.0 in
      let cores : count * spec.cores ≤ length node.cores = h false in
      let hit = covered nodes free node f.hosts set inside i (omega (arith, positive, cores)) in
      (hit, has_room spec count hit.free_host is (λ gpu. omega (arith, h gpu, hit.enough gpu)))

  slots_there : (count : ℕ) (node : Node) → HasSlots spec count node → (gpu : Bool) → count * asked gpu spec ≤ length (kind gpu node)
  slots_there count node h false = omega (arith, h.0)
  slots_there count node h true = omega (arith, h.1)

  matched_slots : (nodes : List Node) (node : Node) → IsUnitSet nodes → LiesIn nodes free → Among node nodes → (k : ℕ) × HasSlots spec k node → IsMatched (λ n. length n.cores / spec.cores) (room_on spec) free node
  matched_slots nodes node set inside i h = at h.0 h.1
    where
      value : (k : ℕ) → HasSlots spec k node → length node.cores / spec.cores ≡ k
      value k h = ap (λ n. n / spec.cores) h.0 ∙ mul-div_cancel k (omega (arith, is.cores.0))

      at : (k : ℕ) → HasSlots spec k node → IsMatched (λ n. length n.cores / spec.cores) (room_on spec) free node
      at zero h = inl (value 0 h)
      at (suc k) h =
          let hit = roomy nodes node set inside i (suc k) (omega arith) (slots_there (suc k) node h) in
          inr (hit.0.free_host, hit.0.among, hit.0.host, subst (λ n. n ≤ room_on spec hit.0.free_host) (sym (value (suc k) h)) hit.1)

  whole_serves : (node : Node) (hit : IsCovered free node) → Among node grant → is_wholly_free grant hit.free_host ≡ true
  whole_serves node hit j =
      let host = hit.free_host in
      let left = each_at (IsLeft grant) free host f.left hit.among in
      let same : left.whole ≡ node = same_image (λ n. n.host) grant left.whole node f.of left.among j (sym left.host ∙ hit.host) in
      let alike : (gpu : Bool) → length (kind gpu node) ≡ length (kind gpu host) = λ gpu. omega (arith, hit.enough gpu, left.fewer gpu, ap (λ n. length (kind gpu n)) same) in
      any_at (λ g. bytes_eq g.host host.host && (eqb (length g.cores) (length host.cores)) && (eqb (length g.gpus) (length host.gpus))) grant node j
      (and_from _ _ (and_from _ _ (same_bytes node.host host.host (sym hit.host)) (eq-eqb _ _ (alike false))) (eq-eqb _ _ (alike true)))

  matched_host : (nodes : List Node) (node : Node) → IsUnitSet nodes → LiesIn nodes free → Among node nodes → IsNodeFor spec grant node → IsMatched (λ _. 1) (λ n. cond (serves spec grant n) 1 0) free node
  matched_host nodes node set inside i h = at spec.exclusive refl h
    where
      matched : ((gpu : Bool) → spec.slots * asked gpu spec ≤ length (kind gpu node)) → ((hit : IsCovered free node) → (not spec.exclusive || is_wholly_free grant hit.free_host) ≡ true) → IsMatched (λ _. 1) (λ n. cond (serves spec grant n) 1 0) free node
      matched slots whole =
          let hit = roomy nodes node set inside i spec.slots is.slots.0 slots in
          let served : serves spec grant hit.0.free_host ≡ true = and_from _ _ (le-leb _ _ hit.1) (whole hit.0) in
          inr (hit.0.free_host, hit.0.among, hit.0.host, subst (λ b. 1 ≤ cond b 1 0) (sym served) (omega arith))

      on_whole : IsWholeHost spec grant node → (gpu : Bool) → spec.slots * asked gpu spec ≤ length (kind gpu node)
      on_whole h false = h.1
      on_whole h true = h.2

      at : (b : Bool) → spec.exclusive ≡ b → MatchBool b (IsWholeHost spec grant node) (HasSlots spec spec.slots node) → IsMatched (λ _. 1) (λ n. cond (serves spec grant n) 1 0) free node
      at true e h = matched (on_whole h) (λ hit. or_right _ _ (whole_serves node hit (among_from grant node h.0)))
      at false e h = matched (slots_there spec.slots node h) (λ hit. or_left _ _ (ap not e))

  pub can_fit_enough : CanFit spec grant free → wanted spec ≤ total (worth spec grant) free
  can_fit_enough can = at spec.nodes can.satisfied
    where
      distinct : Distinct (hosts_of can.nodes)
      distinct = distinct_from (hosts_of can.nodes) can.set.hosts

      at : (o : Option ℕ) → SatisfiesAs o spec grant can.nodes → unwrap_or o spec.slots ≤ total (worth_as o spec grant) free
      at None h =
          let some = some_slots spec spec.slots can.nodes is h in
          let bound = few (λ n. length n.cores / spec.cores) (room_on spec) can.nodes free distinct
          (each_from (IsMatched (λ n. length n.cores / spec.cores) (room_on spec) free) can.nodes (λ node i. matched_slots can.nodes node can.set can.inside i (each_at (λ n. (k : ℕ) × HasSlots spec k n) can.nodes node some.1 i))) in
          omega (arith, some.0, bound)
      at (Some count) h =
          let bound = few (λ _. 1) (λ n. cond (serves spec grant n) 1 0) can.nodes free distinct
          (each_from (IsMatched (λ _. 1) (λ n. cond (serves spec grant n) 1 0) free) can.nodes (λ node i. matched_host can.nodes node can.set can.inside i (each_at (IsNodeFor spec grant) can.nodes node h.1 i))) in
          omega (arith, h.0, bound, total_ones can.nodes)

-- ---- what first fit gives is a set of free units that satisfies the job

-- units of a host of the free ones
pub record IsPiece (f node : Node) : Type 0 where
  pub rank : node.rank ≡ f.rank
  pub host : node.host ≡ f.host
  pub ids : (gpu : Bool) (id : ℕ) → Among id (kind gpu node) → Among id (kind gpu f)
  pub sets : HasDistinct f → HasDistinct node

piece_lowest : (spec : JobSpec) (k : ℕ) (f : Node) → IsPiece f (lowest spec k f)
piece_lowest spec k f = record {
  rank = refl;
  host = refl;
  ids = λ gpu id i. among_take (k * asked gpu spec) (kind gpu f) id (subst (λ ids. Among id ids) (kind_lowest gpu spec k f) i);
  sets = λ d gpu. subst Distinct (sym (kind_lowest gpu spec k f)) (distinct_take (k * asked gpu spec) (kind gpu f) (d gpu));
}

pub piece : (o : Option ℕ) (spec : JobSpec) (k : ℕ) (f : Node) → IsPiece f (give_as o spec k f)
piece None spec k f = piece_lowest spec k f
piece (Some count) spec k f = at spec.exclusive
  where
    at : (b : Bool) → IsPiece f (cond b f (lowest spec spec.slots f))
    at true = record { rank = refl; host = refl; ids = λ gpu id i. i; sets = λ d. d }
    at false = piece_lowest spec spec.slots f

-- each host that is taken is a piece of a free one
pub among_picked : (w : Node → ℕ) (give : ℕ → Node → Node) (left : ℕ) (free : List Node) (node : Node) → Among node (picked w give left free) → (f : Node) × (k : ℕ) × Among f free × (give k f ≡ node)
among_picked w give left [] node i = absurd i
among_picked w give left (f ∷ fs) node i = at (eqb (min left (w f)) 0) (among_picked w give (left - min left (w f)) fs node) i
  where
    at : (b : Bool) → (Among node (picked w give (left - min left (w f)) fs) → (h : Node) × (k : ℕ) × Among h fs × (give k h ≡ node)) → Among node (cond b (picked w give (left - min left (w f)) fs) (give (min left (w f)) f ∷ picked w give (left - min left (w f)) fs)) → (h : Node) × (k : ℕ) × Among h (f ∷ fs) × (give k h ≡ node)
    at true more i = let hit = more i in (hit.0, hit.1, inr hit.2, hit.3)
    at false more i = elim i [
      | inl e ↦ (f, min left (w f), inl refl, e)
      | inr j ↦ let hit = more j in (hit.0, hit.1, inr hit.2, hit.3)
    ]

picked_hosts : (w : Node → ℕ) (give : ℕ → Node → Node) (left : ℕ) (free : List Node) → ((k : ℕ) (f : Node) → (give k f).host ≡ f.host) → Distinct (hosts_of free) → Distinct (hosts_of (picked w give left free))
picked_hosts w give left [] h d = tt
picked_hosts w give left (f ∷ fs) h d = at (eqb (min left (w f)) 0) (picked_hosts w give (left - min left (w f)) fs h d.1)
  where
    apart : (y : List ℕ) → Among y (hosts_of (picked w give (left - min left (w f)) fs)) → (give (min left (w f)) f).host ≢ y
    apart y i e =
        let hit = among_map (λ n. n.host) (picked w give (left - min left (w f)) fs) y i in
        let from = among_picked w give (left - min left (w f)) fs hit.0 hit.1 in
        let same : from.0.host ≡ y = sym (h from.1 from.0) ∙ ap (λ n. n.host) from.3 ∙ hit.2 in
        d.0 from.0.host (among_mapped (λ n. n.host) fs from.0 from.2) (sym (h (min left (w f)) f) ∙ e ∙ sym same)

    at : (b : Bool) → Distinct (hosts_of (picked w give (left - min left (w f)) fs)) → Distinct (hosts_of (cond b (picked w give (left - min left (w f)) fs) (give (min left (w f)) f ∷ picked w give (left - min left (w f)) fs)))
    at true more = more
    at false more = (apart, more)

once : (nodes : List Node) → Distinct (hosts_of nodes) → Each HasDistinct nodes → Distinct (units_of nodes)
once [] d s = tt
once (node ∷ nodes) d s = distinct-append (units_of_node node) (units_of nodes) here (once nodes d.1 s.1) apart
  where
    here : Distinct (units_of_node node)
    here = distinct-append (map (core_of node) node.cores) (map (gpu_of node) node.gpus)
        (distinct_mapped (core_of node) node.cores (λ x y e. ap (λ u. u.id) e) (s.0 false))
        (distinct_mapped (gpu_of node) node.gpus (λ x y e. ap (λ u. u.id) e) (s.0 true))
        (λ unit i j. true≢false (ap (λ u. u.is_gpu) (among_map (gpu_of node) node.gpus unit j).2 ∙ sym (ap (λ u. u.is_gpu) (among_map (core_of node) node.cores unit i).2)))

    apart : (unit : ResourceUnit) → Among unit (units_of_node node) → Among unit (units_of nodes) → ⊥
    apart unit i j =
        let hit = unit_among nodes unit j in
        d.0 hit.0.host (among_mapped (λ n. n.host) nodes hit.0 hit.1) ((node_among node unit i).0 ∙ sym hit.2)

module _ (spec : JobSpec) (grant free : List Node) (f : IsFree grant free) where
  piece_of : (left : ℕ) (node : Node) → Among node (picks spec grant left free) → (h : Node) × Among h free × IsPiece h node
  piece_of left node i =
      let hit = among_picked (worth spec grant) (give_as spec.nodes spec) left free node i in
      (hit.0, hit.2, subst (IsPiece hit.0) hit.3 (piece spec.nodes spec hit.1 hit.0))

  pub picks_set : (left : ℕ) → IsUnitSet (picks spec grant left free)
  picks_set left =
      let hosts = picked_hosts (worth spec grant) (give_as spec.nodes spec) left free (λ k h. (piece spec.nodes spec k h).host) f.hosts in
      record {
        hosts = are_distinct (hosts_of (picks spec grant left free)) hosts;
        once = are_distinct (units_of (picks spec grant left free)) (once (picks spec grant left free) hosts
            (each_from HasDistinct (picks spec grant left free) (λ node i. let hit = piece_of left node i in hit.2.sets (each_at HasDistinct free hit.0 f.sets hit.1))));
      }

  pub picks_inside : (left : ℕ) → LiesIn (picks spec grant left free) free
  picks_inside left = lies_from (picks spec grant left free) free (λ gpu node id i j. let hit = piece_of left node i in (hit.0, hit.1, sym hit.2.host, hit.2.ids gpu id j))

  whole_host : (h : Node) → Among h free → is_wholly_free grant h ≡ true → Among h grant
  whole_host h i e =
      let hit = any_from (λ g. bytes_eq g.host h.host && (eqb (length g.cores) (length h.cores)) && (eqb (length g.gpus) (length h.gpus))) grant e in
      let parts = and_parts (bytes_eq hit.0.host h.host && (eqb (length hit.0.cores) (length h.cores))) (eqb (length hit.0.gpus) (length h.gpus)) hit.2 in
      let more = and_parts (bytes_eq hit.0.host h.host) (eqb (length hit.0.cores) (length h.cores)) parts.0 in
      let left = each_at (IsLeft grant) free h f.left i in
      let same : left.whole ≡ hit.0 = same_image (λ n. n.host) grant left.whole hit.0 f.of left.among hit.1 (sym left.host ∙ sym (bytes_same hit.0.host h.host more.0)) in
      let cores : length h.cores ≡ length left.whole.cores = sym (eqb-true _ _ more.1) ∙ sym (ap (λ n. length n.cores) same) in
      let gpus : length h.gpus ≡ length left.whole.gpus = sym (eqb-true _ _ parts.1) ∙ sym (ap (λ n. length n.gpus) same) in
      subst (λ n. Among n grant) (same_node left.whole h left.rank left.host (left.all false cores) (left.all true gpus)) left.among

  satisfied_hosts : (is : IsSpec spec) (h : Node) → Among h free → serves spec grant h ≡ true → IsNodeFor spec grant (given_by spec h)
  satisfied_hosts is h i e = at spec.exclusive refl
    where
      parts : (leb spec.slots (room_on spec h) ≡ true) × ((not spec.exclusive || is_wholly_free grant h) ≡ true)
      parts = and_parts _ _ e

      on_host : HasSlots spec spec.slots (lowest spec spec.slots h)
      on_host = slots_on spec spec.slots h (eqb spec.gpus 0) refl (leb-true _ _ parts.0)

      long : (n : ℕ) (ids : List ℕ) → length (take n ids) ≡ n → n ≤ length ids
      long zero ids e = omega arith
      long (suc n) [] e = let no : ⊥ = cc in absurd no
      long (suc n) (x ∷ xs) e = let more : n ≤ length xs = long n xs (omega (arith, e)) in omega (arith, more)

      whole : (b : Bool) → spec.exclusive ≡ b → b ≡ true → (not b || is_wholly_free grant h) ≡ true → is_wholly_free grant h ≡ true
      whole true t e w = w
      whole false t e w = absurd (true≢false (sym e))

      at : (b : Bool) → spec.exclusive ≡ b → MatchBool b (IsWholeHost spec grant (cond b h (lowest spec spec.slots h))) (HasSlots spec spec.slots (cond b h (lowest spec spec.slots h)))
      at true t = (contains_from grant h (whole_host h i (whole true t refl (subst (λ b. (not b || is_wholly_free grant h) ≡ true) t parts.1))), long _ h.cores on_host.0, long _ h.gpus on_host.1)
      at false t = on_host

  hosts_satisfy : (is : IsSpec spec) (count : ℕ) (given : List Node) → first_fit_as (Some count) spec grant free ≡ Some given → SatisfiesAs (Some count) spec grant given
  hosts_satisfy is count given e = at (leb count (length (filter (serves spec grant) free))) refl e
    where
      served : List Node
      served = take count (filter (serves spec grant) free)

      each : Each (IsNodeFor spec grant) (map (given_by spec) served)
      each = each_from (IsNodeFor spec grant) (map (given_by spec) served) (λ node i.
          let hit = among_map (given_by spec) served node i in
          let from = among_filter (serves spec grant) free hit.0 (among_take count (filter (serves spec grant) free) hit.0 hit.1) in
          subst (IsNodeFor spec grant) hit.2 (satisfied_hosts is hit.0 from.0 from.1))

      at : (b : Bool) → leb count (length (filter (serves spec grant) free)) ≡ b → option_map (map (given_by spec)) (cond b (Some served) None) ≡ Some given → SatisfiesAs (Some count) spec grant given
      at true t e =
          let same : map (given_by spec) served ≡ given = cc in
          subst (SatisfiesAs (Some count) spec grant) same (length-map served (given_by spec) ∙ length-take-le count (filter (serves spec grant) free) (leb-true _ _ t), each)
      at false t e = cc

  pub satisfies : (is : IsSpec spec) (given : List Node) → first_fit spec grant free ≡ Some given → Satisfies spec grant given
  satisfies is given e = at spec.nodes e
    where
      at : (o : Option ℕ) → first_fit_as o spec grant free ≡ Some given → SatisfiesAs o spec grant given
      at None e = spread_has spec spec.slots free given e
      at (Some count) e = hosts_satisfy is count given e

  pub sound : (is : IsSpec spec) (given : List Node) → first_fit spec grant free ≡ Some given → IsUnitSet given × LiesIn given free × Satisfies spec grant given
  sound is given e =
      let is_picks = (enough spec grant free given e).1 in
      (subst IsUnitSet (sym is_picks) (picks_set (wanted spec)), subst (λ ns. LiesIn ns free) (sym is_picks) (picks_inside (wanted spec)), satisfies is given e)

  pub enough_can_fit : (is : IsSpec spec) → wanted spec ≤ total (worth spec grant) free → CanFit spec grant free
  enough_can_fit is h =
      let s = sound is (picks spec grant (wanted spec) free) (found spec grant free h) in
      record { nodes = picks spec grant (wanted spec) free; set = s.0; inside = s.1; satisfied = s.2 }

pub none_exactly : (spec : JobSpec) (grant free : List Node) → IsSpec spec → IsFree grant free → (first_fit spec grant free ≡ None) ↔ (CanFit spec grant free → ⊥)
none_exactly spec grant free is f = (
  λ e can. let few : total (worth spec grant) free < wanted spec = too_few spec grant free e in
      let many : wanted spec ≤ total (worth spec grant) free = can_fit_enough spec grant free is f can in
      omega arith,
  λ none. elim (cases_lt (total (worth spec grant) free) (wanted spec)) [
    | inl few ↦ not_found spec grant free few
    | inr many ↦ absurd (none (enough_can_fit spec grant free f is many))
  ],
)
