-- A job that fits at a second fits later too, and after the last end of a live job nothing changes.
use Rattle.std.proofs.Common.{◌≡◌, ℕ, ◌<◌, ◌≤◌, Bool, true, false, ◌||◌, eqb, ltb, inl, inr, List, [], ◌∷◌, ◌++◌, map, refl, sym, ap, ◌∙◌, subst, arith}
use Rattle.std.specs.Prelude.{filter, IsTrue, ◌↔◌}
use Rattle.std.specs.List.{AllByRecursion as Each}
use Rattle.std.proofs.lemmas.Bool.{cases_lt, lt-ltb, ltb-true}
use Rattle.job_rules.proofs.Among.{Among, among_append, among_filter, among_flat, among_flattened, among_kept, among_left, among_map, among_mapped, each_at}
use Rattle.job_rules.proofs.Unique.{more_free}
use Rattle.job_rules.specs.Fits.{CanFit, free_of, nodes_of, without_nodes}
use Rattle.graph_match.specs.Allotment.{Allotment}
use Rattle.backfill.proofs.Holding.{nodes_both}
use Rattle.job_spec.specs.declared.spec.JobSpec.{JobSpec}
use Rattle.resource_set.specs.declared.node.Node.{Node}
use Rattle.backfill.specs.declared.hold.Hold.{Hold}
use Rattle.backfill.specs.Held.{held, held_at, is_held_at}
use Rattle.backfill.specs.Reserved.{FitsAt, IsReserved, KeepsReservation}

-- ---- with fewer jobs a job fits that fits with more
fewer : (spec : JobSpec) (grant : List Node) (few more : List Hold) (s t : ℕ) → ((h : Hold) → Among h few → is_held_at t h ≡ true → Among h more × (is_held_at s h ≡ true)) → FitsAt spec grant more s → FitsAt spec grant few t
fewer spec grant few more s t sub can = record {
  nodes = can.nodes;
  set = can.set;
  inside = λ unit u. more_free grant (nodes_of (held_at t few)) (nodes_of (held_at s more)) here unit (can.inside unit u);
  satisfied = can.satisfied;
}
  where
    here : (n : Node) → Among n (nodes_of (held_at t few)) → Among n (nodes_of (held_at s more))
    here n i =
        let part = among_flat (λ h. h.nodes) (held_at t few) n i in
        let from = among_map held (filter (is_held_at t) few) part.0 part.1 in
        let kept = among_filter (is_held_at t) few from.0 from.1 in
        let there = sub from.0 kept.0 kept.1 in
        among_flattened (λ h. h.nodes) (held_at s more) (held from.0) n
        (among_mapped held (filter (is_held_at s) more) from.0 (among_kept (is_held_at s) more from.0 there.0 there.1))
        (subst (λ h. Among n h.nodes) (sym from.2) part.2)

still_held : (s t : ℕ) (h : Hold) → s ≤ t → is_held_at t h ≡ true → is_held_at s h ≡ true
still_held s t h le e = at (eqb h.until 0) e
  where
    at : (b : Bool) → (b || ltb t h.until) ≡ true → (b || ltb s h.until) ≡ true
    at true e = refl
    at false e = let past : t < h.until = ltb-true t h.until e in lt-ltb s h.until (omega (arith, past, le))

endless : (s t : ℕ) (h : Hold) → h.until ≤ s → is_held_at s h ≡ true → is_held_at t h ≡ true
endless s t h le e = at (eqb h.until 0) e
  where
    at : (b : Bool) → (b || ltb s h.until) ≡ true → (b || ltb t h.until) ≡ true
    at true e = refl
    at false e = let past : s < h.until = ltb-true s h.until e in absurd (omega (arith, past, le))

pub fits_later : (spec : JobSpec) (grant : List Node) (live : List Hold) (s t : ℕ) → s ≤ t → FitsAt spec grant live s → FitsAt spec grant live t
fits_later spec grant live s t le = fewer spec grant live live s t (λ h i e. (i, still_held s t h le e))

-- where a job fits at any second it fits at the last one
pub fits_last : (spec : JobSpec) (grant : List Node) (live : List Hold) (last second : ℕ) → Each (λ h. h.until ≤ last) live → FitsAt spec grant live second → FitsAt spec grant live last
fits_last spec grant live last second ended = fewer spec grant live live second last (λ h i e. (i, endless last second h (each_at (λ x. x.until ≤ last) live h ended i) e))

-- without the last job a job fits that fits with it
pub fits_without : (spec : JobSpec) (grant : List Node) (live : List Hold) (offer : Hold) (second : ℕ) → FitsAt spec grant (live ++ offer ∷ []) second → FitsAt spec grant live second
fits_without spec grant live offer second = fewer spec grant live (live ++ offer ∷ []) second second (λ h i e. (among_left live (offer ∷ []) h i, e))

-- ---- the search for the least second
-- between two ends nothing changes: whoever has its units at the one second has them at the other
held_by : (s t : ℕ) (h : Hold) → (t < h.until → s < h.until) → is_held_at t h ≡ true → is_held_at s h ≡ true
held_by s t h by e = at (eqb h.until 0) e
  where
    at : (b : Bool) → (b || ltb t h.until) ≡ true → (b || ltb s h.until) ≡ true
    at true e = refl
    at false e = lt-ltb s h.until (by (ltb-true t h.until e))

-- what doesn't fit at a second doesn't before the next end
pub fits_before : (spec : JobSpec) (grant : List Node) (live : List Hold) (middle next sooner : ℕ) → Each (λ h. middle < h.until → next ≤ h.until) live → sooner < next → FitsAt spec grant live sooner → FitsAt spec grant live middle
fits_before spec grant live middle next sooner ends below = fewer spec grant live live sooner middle (λ h i e. (i, held_by sooner middle h (past h i) e))
  where
    past : (h : Hold) → Among h live → middle < h.until → sooner < h.until
    past h i u = let up : next ≤ h.until = each_at (λ x. middle < x.until → next ≤ x.until) live h ends i u in omega (arith, up, below)

-- and what fits at a second fits from the last end on
pub fits_since : (spec : JobSpec) (grant : List Node) (live : List Hold) (end middle : ℕ) → Each (λ h. h.until ≤ middle → h.until ≤ end) live → FitsAt spec grant live middle → FitsAt spec grant live end
fits_since spec grant live end middle ends = fewer spec grant live live middle end (λ h i e. (i, held_by middle end h (past h i) e))
  where
    past : (h : Hold) → Among h live → end < h.until → middle < h.until
    past h i u = elim (cases_lt middle h.until) [
      | inl up ↦ up
      | inr down ↦ let by : h.until ≤ end = each_at (λ x. x.until ≤ middle → x.until ≤ end) live h ends i down in absurd (omega (arith, by, u))
    ]

-- two least seconds are the same
same_second : (spec : JobSpec) (grant : List Node) (live : List Hold) (now s t : ℕ) → IsReserved spec grant live now s → IsReserved spec grant live now t → s ≡ t
same_second spec grant live now s t a b = elim (cases_lt s t) [
  | inl below ↦ absurd (b.least s a.from below a.fits)
  | inr up ↦ elim (cases_lt t s) [
    | inl below ↦ absurd (a.least t b.from below b.fits)
    | inr down ↦ omega (arith, up, down)
  ]
]

-- the head keeps its second exactly where it fits then beside the offer
pub keeps : (spec : JobSpec) (grant : List Node) (live : List Hold) (offer : Hold) (now second : ℕ) → IsReserved spec grant live now second → FitsAt spec grant (live ++ offer ∷ []) second → KeepsReservation spec grant live offer now
keeps spec grant live offer now second is fits = record {
  second = second;
  without = is;
  beside = record {
    from = is.from;
    fits = fits;
    least = λ sooner from below f. is.least sooner from below (fits_without spec grant live offer sooner f);
  };
}

pub kept : (spec : JobSpec) (grant : List Node) (live : List Hold) (offer : Hold) (now second : ℕ) → IsReserved spec grant live now second → KeepsReservation spec grant live offer now → FitsAt spec grant (live ++ offer ∷ []) second
kept spec grant live offer now second is k = subst (FitsAt spec grant (live ++ offer ∷ [])) (same_second spec grant live now k.second second k.without is) k.beside.fits

-- without a reserved second there is none to keep
pub none_keeps : (spec : JobSpec) (grant : List Node) (live : List Hold) (offer : Hold) (now : ℕ) → ((second : ℕ) → now ≤ second → FitsAt spec grant live second → ⊥) → IsTrue false ↔ KeepsReservation spec grant live offer now
none_keeps spec grant live offer now never = (λ no. cc no, λ k. absurd (never k.second k.without.from k.without.fits))

-- the room that is left at the second beside the offer
pub passes_is : (spec : JobSpec) (grant : List Node) (live : List Hold) (offer : Hold) (now second : ℕ) (g : Allotment) (b : Bool) → IsReserved spec grant live now second → g.grant ≡ grant → nodes_of g.live ≡ nodes_of (held_at second live) ++ nodes_of (held_at second (offer ∷ [])) → IsTrue b ↔ CanFit spec g.grant (free_of g.grant g.live) → IsTrue b ↔ KeepsReservation spec grant live offer now
passes_is spec grant live offer now second g b is same nodes room = (
  λ t. keeps spec grant live offer now second is (beside (room.0 t)),
  λ k. room.1 (back (kept spec grant live offer now second is k)),
)
  where
    taken : nodes_of g.live ≡ nodes_of (held_at second (live ++ offer ∷ []))
    taken = nodes ∙ sym (nodes_both second live (offer ∷ []))

    beside : CanFit spec g.grant (free_of g.grant g.live) → FitsAt spec grant (live ++ offer ∷ []) second
    beside can = subst (λ ns. CanFit spec grant (map (without_nodes ns) grant)) taken (subst (λ x. CanFit spec x (map (without_nodes (nodes_of g.live)) x)) same can)

    back : FitsAt spec grant (live ++ offer ∷ []) second → CanFit spec g.grant (free_of g.grant g.live)
    back can = subst (λ x. CanFit spec x (map (without_nodes (nodes_of g.live)) x)) (sym same) (subst (λ ns. CanFit spec grant (map (without_nodes ns) grant)) (sym taken) can)

-- who has given its units back by the second leaves it
pub keeps_ended : (spec : JobSpec) (grant : List Node) (live : List Hold) (offer : Hold) (now second : ℕ) → IsReserved spec grant live now second → is_held_at second offer ≡ false → IsTrue true ↔ KeepsReservation spec grant live offer now
keeps_ended spec grant live offer now second is ended = (
  λ t. keeps spec grant live offer now second is (fewer spec grant (live ++ offer ∷ []) live second second still is.fits),
  λ k. refl,
)
  where
    still : (h : Hold) → Among h (live ++ offer ∷ []) → is_held_at second h ≡ true → Among h live × (is_held_at second h ≡ true)
    still h i e = elim (among_append live (offer ∷ []) h i) [
      | inl here ↦ (here, e)
      | inr last ↦ elim last [
        | inl same ↦ let no : true ≡ false = sym e ∙ ap (is_held_at second) (sym same) ∙ ended in cc
        | inr none ↦ absurd none
      ]
    ]
