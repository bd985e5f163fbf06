-- First fit finds units exactly where the free hosts bring as much as the job asks for.
use Rattle.std.proofs.Common.{◌≡◌, ℕ, suc, zero, ◌+◌, ◌-◌, ◌<◌, ◌≤◌, min, Bool, true, false, cond, eqb, leb, List, [], ◌∷◌, length, take, map, Option, Some, None, option_map, refl, sym, ap, ◌∙◌, arith}
use Rattle.std.specs.Prelude.{filter, unwrap_or}
use Rattle.std.proofs.lemmas.Bool.{eqb-true, eqb-false, leb-true, leb-false, le-leb, lt-leb}
use Rattle.job_spec.specs.declared.spec.JobSpec.{JobSpec}
use Rattle.resource_set.specs.declared.node.Node.{Node}
use Rattle.job_rules.specs.Fits.{room_on, lowest, with_host, spread, serves, given_by, first_fit_as, first_fit}
use Rattle.job_rules.specs.Worths.{give_as, total, wanted, worth, worth_as}

-- the units that are taken from host to host
abbrev pub picked : (Node → ℕ) → (ℕ → Node → Node) → ℕ → List Node → List Node
picked w give left [] = []
picked w give left (node ∷ nodes) = let here = min left (w node) in with_host here (give here node) (picked w give (left - here) nodes)

abbrev pub picks : JobSpec → List Node → ℕ → List Node → List Node
picks spec grant left nodes = picked (worth spec grant) (give_as spec.nodes spec) left nodes

shift : (w r t : ℕ) → leb (w - min w r) t ≡ leb w (r + t)
shift w r t = elim (leb w (r + t)) as (λ b. leb w (r + t) ≡ b → leb (w - min w r) t ≡ b) [
  | true ↦ λ e. let h : w ≤ r + t = leb-true w (r + t) e in le-leb (w - min w r) t (omega arith)
  | false ↦ λ e. let h : r + t < w = leb-false w (r + t) e in lt-leb (w - min w r) t (omega arith)
] refl

at_zero : (w : ℕ) → eqb w 0 ≡ leb w 0
at_zero w = elim (eqb w 0) as (λ b. eqb w 0 ≡ b → b ≡ leb w 0) [
  | true ↦ λ e. let h : w ≡ 0 = eqb-true w 0 e in sym (le-leb w 0 (omega arith))
  | false ↦ λ e. let h : w ≡ 0 → ⊥ = eqb-false w 0 e in sym (lt-leb w 0 (omega arith))
] refl

mapped : {A B : Type 0} (f : A → B) (b : Bool) (x : A) → option_map f (cond b (Some x) None) ≡ cond b (Some (f x)) None
mapped f true x = refl
mapped f false x = refl

pub spread_is : (spec : JobSpec) (w : ℕ) (nodes : List Node) → spread spec w nodes ≡ cond (leb w (total (room_on spec) nodes)) (Some (picked (room_on spec) (lowest spec) w nodes)) None
spread_is spec w [] = ap (λ b. let r : Option (List Node) = cond b (Some []) None in r) (at_zero w)
spread_is spec w (node ∷ nodes) =
    ap (λ o. option_map (with_host (min w (room_on spec node)) (lowest spec (min w (room_on spec node)) node)) o) (spread_is spec (w - min w (room_on spec node)) nodes)
    ∙ mapped (with_host (min w (room_on spec node)) (lowest spec (min w (room_on spec node)) node)) (leb (w - min w (room_on spec node)) (total (room_on spec) nodes)) (picked (room_on spec) (lowest spec) (w - min w (room_on spec node)) nodes)
    ∙ ap (λ b. cond b (Some (picked (room_on spec) (lowest spec) w (node ∷ nodes))) None) (shift w (room_on spec node) (total (room_on spec) nodes))

total_serving : (p : Node → Bool) (nodes : List Node) → total (λ n. cond (p n) 1 0) nodes ≡ length (filter p nodes)
total_serving p [] = refl
total_serving p (node ∷ nodes) = at (p node) (total_serving p nodes)
  where
    at : (b : Bool) → total (λ n. cond (p n) 1 0) nodes ≡ length (filter p nodes) → cond b 1 0 + total (λ n. cond (p n) 1 0) nodes ≡ length (cond b (node ∷ filter p nodes) (filter p nodes))
    at true e = omega (arith, e)
    at false e = omega (arith, e)

picked_serving : (p : Node → Bool) (g : Node → Node) (count : ℕ) (nodes : List Node) → picked (λ n. cond (p n) 1 0) (λ _ n. g n) count nodes ≡ map g (take count (filter p nodes))
picked_serving p g zero [] = refl
picked_serving p g (suc count) [] = refl
picked_serving p g count (node ∷ nodes) = at count (p node) (λ k. picked_serving p g k nodes)
  where
    rest : ℕ → List Node
    rest k = picked (λ n. cond (p n) 1 0) (λ _ n. g n) k nodes

    at : (count : ℕ) (b : Bool) → ((k : ℕ) → rest k ≡ map g (take k (filter p nodes))) → with_host (min count (cond b 1 0)) (g node) (rest (count - min count (cond b 1 0))) ≡ map g (take count (cond b (node ∷ filter p nodes) (filter p nodes)))
    at zero true h =
        let none : min 0 1 ≡ 0 = omega arith in
        rw none (h 0)
    at (suc count) true h =
        let one : min (suc count) 1 ≡ 1 = omega arith in
        let less : suc count - 1 ≡ count = omega arith in
        rw (one, less) (ap (λ ns. g node ∷ ns) (h count))
    at count false h =
        let none : min count 0 ≡ 0 = omega arith in
        let all : count - 0 ≡ count = omega arith in
        rw (none, all) (h count)

-- first fit, by what the hosts bring
pub first_fit_is : (spec : JobSpec) (grant free : List Node) → first_fit spec grant free ≡ cond (leb (wanted spec) (total (worth spec grant) free)) (Some (picks spec grant (wanted spec) free)) None
first_fit_is spec grant free = at spec.nodes
  where
    at : (o : Option ℕ) → first_fit_as o spec grant free ≡ cond (leb (unwrap_or o spec.slots) (total (worth_as o spec grant) free)) (Some (picked (worth_as o spec grant) (give_as o spec) (unwrap_or o spec.slots) free)) None
    at None = spread_is spec spec.slots free
    at (Some count) =
        mapped (map (given_by spec)) (leb count (length (filter (serves spec grant) free))) (take count (filter (serves spec grant) free))
        ∙ ap (λ n. cond (leb count n) (Some (map (given_by spec) (take count (filter (serves spec grant) free)))) None) (sym (total_serving (serves spec grant) free))
        ∙ ap (λ ns. cond (leb count (total (λ n. cond (serves spec grant n) 1 0) free)) (Some ns) None) (sym (picked_serving (serves spec grant) (given_by spec) count free))

pub found : (spec : JobSpec) (grant free : List Node) → wanted spec ≤ total (worth spec grant) free → first_fit spec grant free ≡ Some (picks spec grant (wanted spec) free)
found spec grant free h = first_fit_is spec grant free ∙ ap (λ b. cond b (Some (picks spec grant (wanted spec) free)) None) (le-leb (wanted spec) (total (worth spec grant) free) h)

pub not_found : (spec : JobSpec) (grant free : List Node) → total (worth spec grant) free < wanted spec → first_fit spec grant free ≡ None
not_found spec grant free h = first_fit_is spec grant free ∙ ap (λ b. cond b (Some (picks spec grant (wanted spec) free)) None) (lt-leb (wanted spec) (total (worth spec grant) free) h)

-- and the other way round
pub enough : (spec : JobSpec) (grant free given : List Node) → first_fit spec grant free ≡ Some given → (wanted spec ≤ total (worth spec grant) free) × (given ≡ picks spec grant (wanted spec) free)
enough spec grant free given e = at (leb (wanted spec) (total (worth spec grant) free)) refl (sym (first_fit_is spec grant free) ∙ e)
  where
    at : (b : Bool) → leb (wanted spec) (total (worth spec grant) free) ≡ b → cond b (Some (picks spec grant (wanted spec) free)) None ≡ Some given → (wanted spec ≤ total (worth spec grant) free) × (given ≡ picks spec grant (wanted spec) free)
    at true t e = (leb-true (wanted spec) (total (worth spec grant) free) t, cc)
    at false t e = cc

pub too_few : (spec : JobSpec) (grant free : List Node) → first_fit spec grant free ≡ None → total (worth spec grant) free < wanted spec
too_few spec grant free e = at (leb (wanted spec) (total (worth spec grant) free)) refl (sym (first_fit_is spec grant free) ∙ e)
  where
    at : (b : Bool) → leb (wanted spec) (total (worth spec grant) free) ≡ b → cond b (Some (picks spec grant (wanted spec) free)) None ≡ None → total (worth spec grant) free < wanted spec
    at true t e = cc
    at false t e = leb-false (wanted spec) (total (worth spec grant) free) t
