-- A set of units among the free ones has no more on each host than is free there, so the free hosts bring as much as it needs.
use Rattle.std.proofs.Common.{◌≡◌, ◌≢◌, ℕ, ◌+◌, ◌*◌, ◌/◌, ◌<◌, ◌≤◌, min, ◌⊎◌, inl, inr, Bool, true, false, cond, eqb, List, [], ◌∷◌, length, map, refl, sym, ap, ◌∙◌, subst, arith}
use Rattle.std.specs.List.{AllByRecursion as Each}
use Rattle.std.specs.Str.{bytes_eq}
use Rattle.std.proofs.lemmas.Nat.{le-div}
use Rattle.std.proofs.lemmas.Bool.{eqb-false, false_from_ne_true}
use Rattle.std.proofs.lemmas.Slice.Eq.{bytes_eq-Decides}
use Rattle.job_spec.specs.declared.spec.JobSpec.{JobSpec}
use Rattle.resource_set.specs.declared.node.Node.{Node}
use Rattle.resource_set.specs.Units.{LiesIn, units_of, units_of_node}
use Rattle.job_rules.specs.Fits.{IsSpec, IsUnitSet, room_on}
use Rattle.job_rules.proofs.Among.{Among, Distinct, among_mapped, distinct_from, distinct_part, each_at, each_from, no_more, same_image}
use Rattle.job_rules.proofs.UnitKinds.{asked, kind, kind_once, lies_at}
use Rattle.job_rules.specs.Worths.{total}

pub same_bytes : (a b : List ℕ) → a ≡ b → bytes_eq a b ≡ true
same_bytes a b e = (bytes_eq-Decides a b).1 e

pub bytes_same : (a b : List ℕ) → bytes_eq a b ≡ true → a ≡ b
bytes_same a b e = (bytes_eq-Decides a b).0 e

pub other_bytes : (a b : List ℕ) → (a ≡ b → ⊥) → bytes_eq a b ≡ false
other_bytes a b h = false_from_ne_true (bytes_eq a b) (λ e. h (bytes_same a b e))

abbrev pub hosts_of : List Node → List (List ℕ)
hosts_of nodes = map (λ node. node.host) nodes

-- the weights of all hosts but one
abbrev pub but : List ℕ → (Node → ℕ) → Node → ℕ
but host w f = cond (bytes_eq f.host host) 0 (w f)

but_less : (host : List ℕ) (w : Node → ℕ) (free : List Node) → total (but host w) free ≤ total w free
but_less host w [] = omega arith
but_less host w (f ∷ fs) = at (bytes_eq f.host host) (but_less host w fs)
  where
    at : (b : Bool) → total (but host w) fs ≤ total w fs → cond b 0 (w f) + total (but host w) fs ≤ w f + total w fs
    at true h = omega (arith, h)
    at false h = omega (arith, h)

but_one : (host : List ℕ) (w : Node → ℕ) (free : List Node) (f : Node) → Among f free → f.host ≡ host → w f + total (but host w) free ≤ total w free
but_one host w [] f i e = absurd i
but_one host w (g ∷ gs) f i e = elim i [
  | inl same ↦
      let hit : bytes_eq g.host host ≡ true = same_bytes g.host host (ap (λ n. n.host) same ∙ e) in
      let gone : but host w g ≡ 0 = ap (λ b. cond b 0 (w g)) hit in
      let weight : w g ≡ w f = ap w same in
      omega (arith, but_less host w gs, gone, weight)
  | inr j ↦ omega (arith, but_one host w gs f j e, less (bytes_eq g.host host))
]
  where
    less : (b : Bool) → cond b 0 (w g) ≤ w g
    less true = omega arith
    less false = omega arith

-- a host's value has its match among the free ones
abbrev pub IsMatched : (Node → ℕ) → (Node → ℕ) → List Node → Node → Type 0
IsMatched v w free node = (v node ≡ 0) ⊎ ((f : Node) × Among f free × (f.host ≡ node.host) × (v node ≤ w f))

pub few : (v w : Node → ℕ) (nodes free : List Node) → Distinct (hosts_of nodes) → Each (IsMatched v w free) nodes → total v nodes ≤ total w free
few v w [] free d m = omega arith
few v w (node ∷ nodes) free d m =
    let rest : total v nodes ≤ total (but node.host w) free = few v (but node.host w) nodes free d.1 (others nodes (λ y i. d.0 y.host (among_mapped (λ n. n.host) nodes y i)) m.1) in
    elim m.0 [
      | inl none ↦ omega (arith, none, rest, but_less node.host w free)
      | inr hit ↦ omega (arith, rest, but_one node.host w free hit.0 hit.1 hit.2, hit.3)
    ]
  where
    other : (y : Node) → node.host ≢ y.host → IsMatched v w free y → IsMatched v (but node.host w) free y
    other y far h = elim h [
      | inl none ↦ inl none
      | inr hit ↦
          let miss : bytes_eq hit.0.host node.host ≡ false = other_bytes hit.0.host node.host (λ e. far (sym e ∙ hit.2)) in
          let same : w hit.0 ≡ but node.host w hit.0 = ap (λ b. cond b 0 (w hit.0)) (sym miss) in
          inr (hit.0, hit.1, hit.2, subst (λ n. v y ≤ n) same hit.3)
    ]

    others : (ys : List Node) → ((y : Node) → Among y ys → node.host ≢ y.host) → Each (IsMatched v w free) ys → Each (IsMatched v (but node.host w) free) ys
    others ys far h = each_from (IsMatched v (but node.host w) free) ys (λ y i. other y (far y i) (each_at (IsMatched v w free) ys y h i))

some_id : (ids : List ℕ) → 1 ≤ length ids → (id : ℕ) × Among id ids
some_id [] h = let none : ⊥ = omega (arith, h) in absurd none
some_id (id ∷ ids) h = (id, inl refl)

-- a host of the set that has a core: the free host of its name has room for all that it has
pub record IsCovered (free : List Node) (node : Node) : Type 0 where
  pub free_host : Node
  pub among : Among free_host free
  pub host : free_host.host ≡ node.host
  pub enough : (gpu : Bool) → length (kind gpu node) ≤ length (kind gpu free_host)

pub covered : (nodes free : List Node) (node : Node) → Distinct (hosts_of free) → IsUnitSet nodes → LiesIn nodes free → Among node nodes → 1 ≤ length node.cores → IsCovered free node
covered nodes free node d set inside i some =
    let first = some_id node.cores some in
    let hit = lies_at nodes free inside false node first.0 i first.1 in
    record {
      free_host = hit.0;
      among = hit.1;
      host = hit.2;
      enough = λ gpu. no_more (kind gpu node) (kind gpu hit.0)
          (kind_once gpu node (distinct_part units_of_node nodes node (distinct_from (units_of nodes) set.once) i))
          (λ id j. let more = lies_at nodes free inside gpu node id i j in
          subst (λ f. Among id (kind gpu f)) (same_image (λ n. n.host) free more.0 hit.0 d more.1 hit.1 (more.2 ∙ sym hit.2)) more.3);
    }

-- room for slots
pub has_room : (spec : JobSpec) (count : ℕ) (f : Node) → IsSpec spec → ((gpu : Bool) → count * asked gpu spec ≤ length (kind gpu f)) → count ≤ room_on spec f
has_room spec count f is h = at (eqb spec.gpus 0) refl
  where
    by : (gpu : Bool) → 0 < asked gpu spec → count ≤ length (kind gpu f) / asked gpu spec
    by gpu some = le-div count (length (kind gpu f)) (asked gpu spec) some (h gpu)

    at : (b : Bool) → eqb spec.gpus 0 ≡ b → count ≤ cond b (length f.cores / spec.cores) (min (length f.cores / spec.cores) (length f.gpus / spec.gpus))
    at true e = by false (omega (arith, is.cores.0))
    at false e =
        let some : spec.gpus ≡ 0 → ⊥ = eqb-false spec.gpus 0 e in
        let by_cores : count ≤ length f.cores / spec.cores = by false (omega (arith, is.cores.0)) in
        let by_gpus : count ≤ length f.gpus / spec.gpus = by true (omega (arith, some)) in
        omega (arith, by_cores, by_gpus)
