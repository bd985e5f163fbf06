-- What first fit gives beside live jobs is in the grant and apart from them.
use Rattle.std.proofs.Common.{◌≡◌, ℕ, true, false, cond, ◌||◌, eqb, ltb, zero, suc, List, [], ◌∷◌, ◌++◌, map, refl, sym, ap, ◌∙◌, subst, arith}
use Rattle.std.specs.Prelude.{filter}
use Rattle.std.specs.List.{AllByRecursion as Each}
use Rattle.std.proofs.lemmas.Bool.{true≢false, false_from_ne_true, lt-ltb, or_from, or_parts, or_right}
use Rattle.std.proofs.lemmas.List.{map-append}
use Rattle.std.proofs.lemmas.List.Concat.{flat_map-append}
use Rattle.resource_set.specs.declared.node.Node.{Node}
use Rattle.job_rules.specs.Fits.{AllApart, AreApart, AreWithin, free_of, has_unit, nodes_of}
use Rattle.graph_match.specs.Allotment.{Allotment}
use Rattle.graph_match.specs.Answers.{AreFirstFit, Answers}
use Rattle.graph_match.proofs.Fitting.{are_within_grant, free_of_others}
use Rattle.graph_match.proofs.Holds.{has_both}
use Rattle.backfill.specs.declared.hold.Hold.{Hold}
use Rattle.backfill.specs.Held.{AreHeld, held, held_at, is_held_at}
use Rattle.backfill.proofs.reserving.tests.offer.Goals as goal

-- at second 0 every job holds its units
all_held : (live : List Hold) → held_at 0 live ≡ map held live
all_held [] = refl
all_held (x ∷ xs) = ap (λ b. map held (cond b (x ∷ rest) rest)) (at x.until) ∙ ap (λ hs. held x ∷ hs) (all_held xs)
  where
    rest : List Hold
    rest = filter (is_held_at 0) xs

    at : (n : ℕ) → (eqb n 0 || ltb 0 n) ≡ true
    at zero = refl
    at (suc n) = or_right (eqb (suc n) 0) (ltb 0 (suc n)) (lt-ltb 0 (suc n) (omega arith))

-- a job that is apart from all others stands last
apart_last : (hold : Hold) (live : List Hold) → AllApart (map held live) → AreApart hold.units.nodes (nodes_of (map held live)) → AllApart (map held (live ++ hold ∷ []))
apart_last hold [] a h = ((λ host id. (λ t. refl, λ t. refl)), tt)
apart_last hold (x ∷ xs) a h = (here, apart_last hold xs a.1 (λ host id. (rest (λ n. n.cores) host id (h host id).0, rest (λ n. n.gpus) host id (h host id).1)))
  where
    taken : List Node
    taken = nodes_of (map held xs)

    rest : (kind : Node → List ℕ) (host : List ℕ) (id : ℕ) → (has_unit kind hold.units.nodes host id ≡ true → has_unit kind (x.units.nodes ++ taken) host id ≡ false) → has_unit kind hold.units.nodes host id ≡ true → has_unit kind taken host id ≡ false
    rest kind host id f t = (or_parts (has_unit kind x.units.nodes host id) (has_unit kind taken host id) (sym (has_both kind x.units.nodes taken host id) ∙ f t)).1

    one : (kind : Node → List ℕ) (host : List ℕ) (id : ℕ) → (has_unit kind hold.units.nodes host id ≡ true → has_unit kind (x.units.nodes ++ taken) host id ≡ false) → (has_unit kind x.units.nodes host id ≡ true → has_unit kind taken host id ≡ false) → has_unit kind x.units.nodes host id ≡ true → has_unit kind (taken ++ nodes_of (held hold ∷ [])) host id ≡ false
    one kind host id f g t =
        has_both kind taken (nodes_of (held hold ∷ [])) host id
        ∙ or_from (has_unit kind taken host id) (has_unit kind (nodes_of (held hold ∷ [])) host id) (g t)
        (has_both kind hold.units.nodes [] host id ∙ or_from (has_unit kind hold.units.nodes host id) (has_unit kind [] host id)
        (false_from_ne_true (has_unit kind hold.units.nodes host id) (λ u. true≢false (sym t ∙ (or_parts (has_unit kind x.units.nodes host id) (has_unit kind taken host id) (sym (has_both kind x.units.nodes taken host id) ∙ f u)).0))) refl)

    here : AreApart x.units.nodes (nodes_of (map held (xs ++ hold ∷ [])))
    here = subst (AreApart x.units.nodes) (sym (ap nodes_of (map-append held xs (hold ∷ [])) ∙ flat_map-append (λ h. h.nodes) (map held xs) (held hold ∷ [])))
        (λ host id. (one (λ n. n.cores) host id (h host id).0 (a.0 host id).0, one (λ n. n.gpus) host id (h host id).1 (a.0 host id).1))

held_more : (grant : List Node) (live : List Hold) (hold : Hold) (g : Allotment) → AreHeld grant live → g.grant ≡ grant → nodes_of g.live ≡ nodes_of (held_at 0 live) → AreWithin hold.units.nodes (free_of g.grant g.live) → AreHeld grant (live ++ hold ∷ [])
held_more grant live hold g h same nodes w = record {
  within = within live h.within;
  apart = apart_last hold live h.apart (subst (AreApart hold.units.nodes) (nodes ∙ ap nodes_of (all_held live)) (free_of_others (nodes_of g.live) g.grant hold.units.nodes w));
}
  where
    inside : AreWithin hold.units.nodes grant
    inside = subst (AreWithin hold.units.nodes) same (are_within_grant (nodes_of g.live) g.grant hold.units.nodes w)

    within : (xs : List Hold) → Each (λ x. AreWithin x.units.nodes grant) xs → Each (λ x. AreWithin x.units.nodes grant) (xs ++ hold ∷ [])
    within [] e = (inside, tt)
    within (x ∷ xs) e = (e.0, within xs e.1)

pub returns-in-Units : goal.returns-in-Units
returns-in-Units c =
    let fit : AreFirstFit c.in_ok-graph.graph c.spec-spec.result 0 c.in-Units.units = subst (Answers c.in_ok-graph.graph c.spec-spec.result 0) c.in-Units.is c.in_ok-units.ensures in
    held_more c.args.grant.now.nodes c.args.live.now _ c.in_ok-graph.graph c.requires.held c.in_ok-graph.ensures.grant c.in_ok-graph.ensures.nodes fit.free
