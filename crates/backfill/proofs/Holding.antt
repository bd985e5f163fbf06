-- What live jobs hold at a second, one after another.
use Rattle.std.proofs.Common.{◌≡◌, ◌≢◌, ℕ, suc, zero, ◌+◌, ◌<◌, ◌==◌, Bool, true, false, cond, not, ◌&&◌, List, [], ◌∷◌, ◌++◌, length, get_or, take, map, refl, sym, ap, ◌∙◌, subst, length-append, arith}
use Rattle.std.specs.Prelude.{filter}
use Rattle.std.specs.List.{AllByRecursion as Each}
use Rattle.std.specs.Str.{bytes_eq}
use Rattle.std.proofs.lemmas.Bool.{true≢false, and_from, eq-eqb, le-ltb, ne_eqb, or_from, or_parts, false_from_ne_true}
use Rattle.std.proofs.lemmas.List.{map-append}
use Rattle.std.proofs.Math.Seq.{take-append_seam}
use Rattle.std.proofs.lemmas.List.Concat.{flat_map-append}
use Rattle.std.proofs.lemmas.List.Elements.{filter-append}
use Rattle.idset.specs.Ids.{has}
use Rattle.resource_set.specs.declared.node.Node.{Node}
use Rattle.job_rules.specs.declared.hold.Hold.{Hold as Held}
use Rattle.job_rules.specs.Fits.{AllApart, AreApart, AreWithin, IsWithin, has_unit, left_on, nodes_of, without_nodes}
use Rattle.job_rules.proofs.Among.{Among, among_from, among_has, among_kept, among_map, among_mapped, any_at, contains_from, each_at, each_from, has_among}
use Rattle.job_rules.proofs.Few.{same_bytes}
use Rattle.graph_match.specs.Holds.{IsNew, with_hold, without_hold}
use Rattle.graph_match.proofs.Blocking.{IsApartBy}
use Rattle.graph_match.proofs.Holds.{has_both, has_held, ids_of}
use Rattle.graph_match.proofs.Turns.{read_among}
use Rattle.backfill.specs.declared.hold.Hold.{Hold}
use Rattle.backfill.specs.Held.{AreHeld, free_at, held, held_at, is_held_at}

-- ---- jobs under rising ids
with_last : (hold : Held) (holds : List Held) → Each (λ h. h.id < hold.id) holds → with_hold hold holds ≡ holds ++ hold ∷ []
with_last hold [] e = refl
with_last hold (x ∷ xs) e =
    ap (λ b. cond b (hold ∷ x ∷ xs) (x ∷ with_hold hold xs)) (le-ltb hold.id x.id (omega (arith, e.0)))
    ∙ ap (λ ys. x ∷ ys) (with_last hold xs e.1)

-- and give them back
pub left_again : (hold : Held) (holds : List Held) → Each (λ h. h.id < hold.id) holds → without_hold hold.id (with_hold hold holds) ≡ holds
left_again hold holds e = ap (without_hold hold.id) (with_last hold holds e) ∙ all holds e
  where
    all : (xs : List Held) → Each (λ h. h.id < hold.id) xs → filter (λ h. not (h.id == hold.id)) (xs ++ hold ∷ []) ≡ xs
    all [] e = ap (λ b. cond (not b) (hold ∷ []) []) (eq-eqb hold.id hold.id refl)
    all (x ∷ xs) e =
        let other : x.id ≢ hold.id = λ same. omega (arith, e.0, same) in
        ap (λ b. cond (not b) (x ∷ filter (λ h. not (h.id == hold.id)) (xs ++ hold ∷ [])) (filter (λ h. not (h.id == hold.id)) (xs ++ hold ∷ []))) (ne_eqb x.id hold.id other)
        ∙ ap (λ ys. x ∷ ys) (all xs e.1)

pub new_id : (place : ℕ) (holds : List Held) → Each (λ h. h.id < place) holds → IsNew place holds
new_id place holds e c =
    let hit = among_map (λ h. h.id) holds place (among_from (ids_of holds) place c) in
    let below : hit.0.id < place = each_at (λ h. h.id < place) holds hit.0 e hit.1 in
    omega (arith, below, hit.2)

pub below_more : (place : ℕ) (holds : List Held) → Each (λ h. h.id < place) holds → Each (λ h. h.id < place + 1) holds
below_more place [] e = tt
below_more place (x ∷ xs) e = (omega (arith, e.0), below_more place xs e.1)

pub below_with : (place : ℕ) (hold : Held) (holds : List Held) → hold.id ≡ place → Each (λ h. h.id < place) holds → Each (λ h. h.id < place + 1) (with_hold hold holds)
below_with place hold holds same e = subst (Each (λ h. h.id < place + 1)) (sym (with_last hold holds (subst (λ n. Each (λ h. h.id < n) holds) (sym same) e))) (more holds e)
  where
    more : (xs : List Held) → Each (λ h. h.id < place) xs → Each (λ h. h.id < place + 1) (xs ++ hold ∷ [])
    more [] e = (omega (arith, same), tt)
    more (x ∷ xs) e = (omega (arith, e.0), more xs e.1)

pub nodes_with : (hold : Held) (holds : List Held) → Each (λ h. h.id < hold.id) holds → nodes_of (with_hold hold holds) ≡ nodes_of holds ++ nodes_of (hold ∷ [])
nodes_with hold holds e = ap nodes_of (with_last hold holds e) ∙ flat_map-append (λ h. h.nodes) holds (hold ∷ [])

-- ---- one more job
pub nodes_both : (second : ℕ) (xs ys : List Hold) → nodes_of (held_at second (xs ++ ys)) ≡ nodes_of (held_at second xs) ++ nodes_of (held_at second ys)
nodes_both second xs ys =
    ap (λ zs. nodes_of (map held zs)) (filter-append (is_held_at second) xs ys)
    ∙ ap nodes_of (map-append held (filter (is_held_at second) xs) (filter (is_held_at second) ys))
    ∙ flat_map-append (λ h. h.nodes) (held_at second xs) (held_at second ys)

-- ---- a job finds its units free of those before it
module _ (kind : Node → List ℕ) (by : IsApartBy kind) (second : ℕ) where
  apart_before : (live : List Hold) (i : ℕ) (hold : Hold) (host : List ℕ) (id : ℕ) → AllApart (map held live) → i < length live → hold ≡ get_or live i hold → has_unit kind hold.units.nodes host id ≡ true → has_unit kind (nodes_of (held_at second (take i live))) host id ≡ false
  apart_before [] i hold host id a w e t = let no : ⊥ = omega (arith, w) in absurd no
  apart_before (x ∷ xs) zero hold host id a w e t = refl
  apart_before (x ∷ xs) (suc i) hold host id a w e t =
      let within : i < length xs = omega (arith, w) in
      let there : has_unit kind (nodes_of (map held xs)) host id ≡ true = has_held kind (map held xs) (held hold) host id (among_mapped held xs hold (read_among xs i hold within e)) t in
      let none : has_unit kind x.units.nodes host id ≡ false = false_from_ne_true (has_unit kind x.units.nodes host id) (λ u. true≢false (sym there ∙ by x.units.nodes (nodes_of (map held xs)) a.0 host id u)) in
      at (is_held_at second x) none (apart_before xs i hold host id a.1 within e t)
    where
      rest : List Hold
      rest = filter (is_held_at second) (take i xs)

      at : (b : Bool) → has_unit kind x.units.nodes host id ≡ false → has_unit kind (nodes_of (map held rest)) host id ≡ false → has_unit kind (nodes_of (map held (cond b (x ∷ rest) rest))) host id ≡ false
      at true none more = has_both kind x.units.nodes (nodes_of (map held rest)) host id ∙ or_from (has_unit kind x.units.nodes host id) (has_unit kind (nodes_of (map held rest)) host id) none more
      at false none more = more

  still_there : (nodes taken : List Node) → AreApart nodes taken → (node g : Node) → Among node nodes → node.host ≡ g.host → (id : ℕ) → has (kind node) id ≡ true → has (kind g) id ≡ true → has (left_on kind taken g) id ≡ true
  still_there nodes taken a node g i e id here there =
      let none : has_unit kind taken g.host id ≡ false = by nodes taken a g.host id (any_at (λ n. bytes_eq n.host g.host && has (kind n) id) nodes node i (and_from (bytes_eq node.host g.host) (has (kind node) id) (same_bytes node.host g.host e) here)) in
      among_has (left_on kind taken g) id (among_kept (λ id. not (has_unit kind taken g.host id)) (kind g) id (has_among (kind g) id there) (ap not none))

by_cores : IsApartBy (λ n. n.cores)
by_cores a b x host id = (x host id).0

by_gpus : IsApartBy (λ n. n.gpus)
by_gpus a b x host id = (x host id).1

within_free : (nodes grant taken : List Node) → AreWithin nodes grant → AreApart nodes taken → AreWithin nodes (map (without_nodes taken) grant)
within_free nodes grant taken w a = record {
  hosts = w.hosts;
  inside = each_from (IsWithin (map (without_nodes taken) grant)) nodes (λ node i. at node i (each_at (IsWithin grant) nodes node w.inside i));
}
  where
    at : (node : Node) → Among node nodes → IsWithin grant node → IsWithin (map (without_nodes taken) grant) node
    at node i home = (
      without_nodes taken home.0,
      contains_from (map (without_nodes taken) grant) (without_nodes taken home.0) (among_mapped (without_nodes taken) grant home.0 (among_from grant home.0 home.1)),
      record {
        rank = home.2.rank;
        host = home.2.host;
        cores = λ id t. still_there (λ n. n.cores) by_cores 0 nodes taken a node home.0 i home.2.host id t (home.2.cores id t);
        gpus = λ id t. still_there (λ n. n.gpus) by_gpus 0 nodes taken a node home.0 i home.2.host id t (home.2.gpus id t);
      },
    )

pub free_before : (second : ℕ) (grant : List Node) (live : List Hold) (i : ℕ) (hold : Hold) → AreHeld grant live → i < length live → hold ≡ get_or live i hold → AreWithin hold.units.nodes (free_at second grant (take i live))
free_before second grant live i hold h w e = within_free hold.units.nodes grant (nodes_of (held_at second (take i live)))
    (each_at (λ x. AreWithin x.units.nodes grant) live hold h.within (read_among live i hold w e))
    (λ host id. (apart_before (λ n. n.cores) by_cores second live i hold host id h.apart w e, apart_before (λ n. n.gpus) by_gpus second live i hold host id h.apart w e))

-- ---- the first of several jobs
pub held_first : (grant : List Node) (live more : List Hold) → AreHeld grant (live ++ more) → AreHeld grant live
held_first grant live more h = record { within = within live h.within; apart = apart live h.apart }
  where
    within : (xs : List Hold) → Each (λ x. AreWithin x.units.nodes grant) (xs ++ more) → Each (λ x. AreWithin x.units.nodes grant) xs
    within [] e = tt
    within (x ∷ xs) e = (e.0, within xs e.1)

    first_apart : (nodes a b : List Node) → AreApart nodes (a ++ b) → AreApart nodes a
    first_apart nodes a b x host id = (one (λ n. n.cores) (x host id).0, one (λ n. n.gpus) (x host id).1)
      where
        one : (kind : Node → List ℕ) → (has_unit kind nodes host id ≡ true → has_unit kind (a ++ b) host id ≡ false) → has_unit kind nodes host id ≡ true → has_unit kind a host id ≡ false
        one kind f t = (or_parts (has_unit kind a host id) (has_unit kind b host id) (sym (has_both kind a b host id) ∙ f t)).0

    apart : (xs : List Hold) → AllApart (map held (xs ++ more)) → AllApart (map held xs)
    apart [] a = tt
    apart (x ∷ xs) a = (
      first_apart x.units.nodes (nodes_of (map held xs)) (nodes_of (map held more)) (subst (AreApart x.units.nodes) (ap nodes_of (map-append held xs more) ∙ flat_map-append (λ h. h.nodes) (map held xs) (map held more)) a.0),
      apart xs a.1,
    )

-- the last job finds its units free of those before it
pub free_beside : (second : ℕ) (grant : List Node) (live : List Hold) (offer : Hold) → AreHeld grant (live ++ offer ∷ []) → AreWithin offer.units.nodes (free_at second grant live)
free_beside second grant live offer h =
    let within : length live < length (live ++ offer ∷ []) = simp length-append (omega arith) in
    subst (λ xs. AreWithin offer.units.nodes (free_at second grant xs)) (take-append_seam live (offer ∷ []))
    (free_before second grant (live ++ offer ∷ []) (length live) offer h within (here live))
  where
    here : (xs : List Hold) → offer ≡ get_or (xs ++ offer ∷ []) (length xs) offer
    here [] = refl
    here (x ∷ xs) = here xs
