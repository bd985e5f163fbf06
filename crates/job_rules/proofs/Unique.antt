-- The jobs in a job's way are one list, and the rest of them leaves room without any one.
use Rattle.std.proofs.Common.{◌≡◌, ℕ, suc, zero, ◌+◌, ◌<◌, ◌≤◌, Bool, true, false, cond, not, ◌&&◌, ◌||◌, eqb, ltb, inl, inr, List, [], ◌∷◌, length, get_or, map, refl, sym, ap, ◌∙◌, subst, arith}
use Rattle.std.specs.Prelude.{Contains, filter}
use Rattle.std.specs.List.Sorted.{IsStrictlyIncreasing}
use Rattle.std.proofs.lemmas.Bool.{true≢false, false_from_ne_true, and_parts, and_from, eqb-false, ltb-true, lt-ltb, or_left, or_right, not-true, cases_lt}
use Rattle.std.specs.Str.{bytes_eq}
use Rattle.idset.specs.Ids.{has}
use Rattle.job_spec.specs.declared.spec.JobSpec.{JobSpec}
use Rattle.job_rules.specs.declared.hold.Hold.{Hold}
use Rattle.resource_set.specs.declared.node.Node.{Node}
use Rattle.resource_set.specs.Units.{LiesIn}
use Rattle.job_rules.specs.Fits.{AreBlockers, CanFit, free_of, has_unit, nodes_of, others_at, without_nodes}
use Rattle.job_rules.proofs.UnitKinds.{kind, left_unit, lies_from, unit_left}
use Rattle.job_rules.proofs.Among.{Among, among_filter, among_flat, among_flattened, among_from, among_has, among_kept, among_map, any_at, any_from, contains_from, has_among}

abbrev Rises : ℕ → List ℕ → Type 0
Rises n [] = Unit {0}
Rises n (x ∷ xs) = (n ≤ x) × Rises (x + 1) xs

rises_of : (n : ℕ) (xs : List ℕ) → (0 < length xs → n ≤ get_or xs 0 0) → IsStrictlyIncreasing xs → Rises n xs
rises_of n [] h i = tt
rises_of n (x ∷ xs) h i = (h (omega arith), rises_of (x + 1) xs next more)
  where
    next : 0 < length xs → x + 1 ≤ get_or xs 0 0
    next w = let step : x < get_or (x ∷ xs) 1 0 = i 0 (omega arith) in omega (arith, step)

    more : IsStrictlyIncreasing xs
    more k w = let e : suc k + 1 ≡ suc (k + 1) = omega arith in subst (λ n. get_or xs k 0 < get_or (x ∷ xs) n 0) e (i (suc k) (omega arith))

above : (n id : ℕ) (xs : List ℕ) → Rises n xs → Among id xs → n ≤ id
above n id [] r i = absurd i
above n id (x ∷ xs) r i = elim i [
  | inl same ↦ omega (arith, r.0, same)
  | inr j ↦ omega (arith, r.0, above (x + 1) id xs r.1 j)
]

-- rising lists of the same numbers are the same
same_rising : (n m : ℕ) (a b : List ℕ) → Rises n a → Rises m b → ((id : ℕ) → Among id a → Among id b) → ((id : ℕ) → Among id b → Among id a) → a ≡ b
same_rising n m [] [] r s f g = refl
same_rising n m [] (y ∷ ys) r s f g = absurd (g y (inl refl))
same_rising n m (x ∷ xs) [] r s f g = absurd (f x (inl refl))
same_rising n m (x ∷ xs) (y ∷ ys) r s f g =
    let low : y ≤ x = least y x ys s.1 (f x (inl refl)) in
    let high : x ≤ y = least x y xs r.1 (g y (inl refl)) in
    let same : x ≡ y = omega (arith, low, high) in
    ap (λ k. k ∷ xs) same ∙ ap (λ ks. y ∷ ks) (same_rising (x + 1) (y + 1) xs ys r.1 s.1
    (λ id i. tail y id ys (f id (inr i)) (omega (arith, above (x + 1) id xs r.1 i, same)))
    (λ id i. tail x id xs (g id (inr i)) (omega (arith, above (y + 1) id ys s.1 i, same))))
  where
    least : (p q : ℕ) (ps : List ℕ) → Rises (p + 1) ps → Among q (p ∷ ps) → p ≤ q
    least p q ps r i = elim i [
      | inl e ↦ omega (arith, e)
      | inr j ↦ omega (arith, above (p + 1) q ps r j)
    ]

    tail : (p id : ℕ) (ps : List ℕ) → Among id (p ∷ ps) → p < id → Among id ps
    tail p id ps i h = elim i [
      | inl e ↦ let no : ⊥ = omega (arith, e, h) in absurd no
      | inr j ↦ j
    ]

same_filter : (p q : Hold → Bool) (xs : List Hold) → ((x : Hold) → Among x xs → p x ≡ q x) → filter p xs ≡ filter q xs
same_filter p q [] h = refl
same_filter p q (x ∷ xs) h =
    ap (λ b. cond b (x ∷ filter p xs) (filter p xs)) (h x (inl refl))
    ∙ ap (λ ys. cond (q x) (x ∷ ys) ys) (same_filter p q xs (λ y i. h y (inr i)))

same_test : (a b : Bool) → (a ≡ true → b ≡ true) → (b ≡ true → a ≡ true) → a ≡ b
same_test true true f g = refl
same_test true false f g = sym (f refl)
same_test false true f g = g refl
same_test false false f g = refl

module _ (spec : JobSpec) (grant : List Node) (live : List Hold) (a b : List ℕ) (p : AreBlockers spec grant live a) (q : AreBlockers spec grant live b) where
  agree : (n : ℕ) (hold : Hold) → Among hold live → hold.id < n → has a hold.id ≡ has b hold.id
  agree zero hold i h = let no : ⊥ = omega (arith, h) in absurd no
  agree (suc n) hold i h = here (λ x j w. agree n x j w)
    where
      here : ((x : Hold) → Among x live → x.id < n → has a x.id ≡ has b x.id) → has a hold.id ≡ has b hold.id
      here before =
          let same : others_at hold.id a live ≡ others_at hold.id b live = same_filter (λ x. (ltb x.id hold.id && has a x.id) || ltb hold.id x.id) (λ x. (ltb x.id hold.id && has b x.id) || ltb hold.id x.id) live (λ x j. one x j (ltb x.id hold.id) refl before) in
          let at = contains_from live hold i in
          same_test (has a hold.id) (has b hold.id)
          (λ t. among_has b hold.id (among_from b hold.id ((q.exact hold at).1 (subst (λ hs. CanFit spec grant (free_of grant hs)) same ((p.exact hold at).0 (contains_from a hold.id (has_among a hold.id t)))))))
          (λ t. among_has a hold.id (among_from a hold.id ((p.exact hold at).1 (subst (λ hs. CanFit spec grant (free_of grant hs)) (sym same) ((q.exact hold at).0 (contains_from b hold.id (has_among b hold.id t)))))))
        where
          one : (x : Hold) → Among x live → (t : Bool) → ltb x.id hold.id ≡ t → ((x : Hold) → Among x live → x.id < n → has a x.id ≡ has b x.id) → ((t && has a x.id) || ltb hold.id x.id) ≡ ((t && has b x.id) || ltb hold.id x.id)
          one x j true e before = let below : x.id < hold.id = ltb-true x.id hold.id e in ap (λ s. s || ltb hold.id x.id) (before x j (omega (arith, below, h)))
          one x j false e before = refl

  moved : (c d : List ℕ) → AreBlockers spec grant live c → ((hold : Hold) → Among hold live → has c hold.id ≡ has d hold.id) → (id : ℕ) → Among id c → Among id d
  moved c d r f id i =
      let hit = among_map (λ h. h.id) live id (among_from (map (λ h. h.id) live) id (r.alive id (contains_from c id i))) in
      let t : has d hit.0.id ≡ true = sym (f hit.0 hit.1) ∙ among_has c hit.0.id (subst (λ n. Among n c) (sym hit.2) i) in
      subst (λ n. Among n d) hit.2 (has_among d hit.0.id t)

  pub one_list : a ≡ b
  one_list = same_rising 0 0 a b (rises_of 0 a (λ w. omega arith) p.rising) (rises_of 0 b (λ w. omega arith) q.rising)
      (moved a b p (λ hold i. agree (suc hold.id) hold i (omega arith)))
      (moved b a q (λ hold i. sym (agree (suc hold.id) hold i (omega arith))))

-- ---- with fewer nodes taken more is free
pub more_free : (grant few more : List Node) → ((n : Node) → Among n few → Among n more) → LiesIn (map (without_nodes more) grant) (map (without_nodes few) grant)
more_free grant few more sub = lies_from (map (without_nodes more) grant) (map (without_nodes few) grant) (λ gpu node id i j.
    let left = unit_left gpu grant more node.host id (node, i, refl, j) in
    left_unit gpu grant few node.host id left.0 (false_from_ne_true (has_unit (kind gpu) few node.host id) (λ t. true≢false (sym (kept gpu node.host id t) ∙ left.1))))
  where
    kept : (gpu : Bool) (host : List ℕ) (id : ℕ) → has_unit (kind gpu) few host id ≡ true → has_unit (kind gpu) more host id ≡ true
    kept gpu host id t =
        let hit = any_from (λ n. bytes_eq n.host host && has (kind gpu n) id) few t in
        any_at (λ n. bytes_eq n.host host && has (kind gpu n) id) more hit.0 (sub hit.0 hit.1) hit.2

-- without any one of the jobs the rest leaves room
pub minimal : (spec : JobSpec) (grant : List Node) (live : List Hold) (ids : List ℕ) (hold : Hold) → AreBlockers spec grant live ids → Contains live hold → Contains ids hold.id → CanFit spec grant (free_of grant (filter (λ h. has ids h.id && not (eqb h.id hold.id)) live))
minimal spec grant live ids hold p l c =
    let can = (p.exact hold l).0 c in
    record {
      nodes = can.nodes;
      set = can.set;
      inside = λ unit u. more_free grant (nodes_of rest) (nodes_of (others_at hold.id ids live)) sub unit (can.inside unit u);
      satisfied = can.satisfied;
    }
  where
    rest : List Hold
    rest = filter (λ h. has ids h.id && not (eqb h.id hold.id)) live

    sub : (n : Node) → Among n (nodes_of rest) → Among n (nodes_of (others_at hold.id ids live))
    sub n i =
        let hit = among_flat (λ h. h.nodes) rest n i in
        let inside = among_filter (λ h. has ids h.id && not (eqb h.id hold.id)) live hit.0 hit.1 in
        among_flattened (λ h. h.nodes) (others_at hold.id ids live) hit.0 n (among_kept (λ h. (ltb h.id hold.id && has ids h.id) || ltb hold.id h.id) live hit.0 inside.0 (passes hit.0 inside.1)) hit.2
      where
        passes : (h : Hold) → (has ids h.id && not (eqb h.id hold.id)) ≡ true → ((ltb h.id hold.id && has ids h.id) || ltb hold.id h.id) ≡ true
        passes h t =
            let parts = and_parts (has ids h.id) (not (eqb h.id hold.id)) t in
            let other : h.id ≡ hold.id → ⊥ = eqb-false h.id hold.id (not-true (eqb h.id hold.id) parts.1) in
            elim (cases_lt h.id hold.id) [
              | inl below ↦ or_left (ltb h.id hold.id && has ids h.id) (ltb hold.id h.id) (and_from (ltb h.id hold.id) (has ids h.id) (lt-ltb h.id hold.id below) parts.0)
              | inr up ↦ let past : hold.id < h.id = omega (arith, up, other) in or_right (ltb h.id hold.id && has ids h.id) (ltb hold.id h.id) (lt-ltb hold.id h.id past)
            ]
