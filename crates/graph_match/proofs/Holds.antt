-- Live jobs by id: one more, one less, and what they hold in all.
use Rattle.std.proofs.Common.{◌≡◌, ◌≢◌, ℕ, suc, zero, ◌+◌, ◌<◌, ◌≤◌, Bool, true, false, cond, not, ◌&&◌, ◌||◌, ltb, inl, inr, List, [], ◌∷◌, ◌++◌, length, get_or, take, drop, map, refl, sym, ap, ◌∙◌, subst, arith}
use Rattle.std.specs.Prelude.{filter}
use Rattle.std.specs.List.{AllByRecursion as Each}
use Rattle.std.specs.List.Sorted.{IsStrictlyIncreasing}
use Rattle.std.proofs.lemmas.Bool.{true≢false, cases_lt, eq-eqb, ne_eqb, lt-ltb, le-ltb, or_left, or_right, or_parts, or_from}
use Rattle.std.proofs.lemmas.List.{get_or-map, get_or_default, length-map}
use Rattle.std.proofs.lemmas.List.Folds.{list_any-append}
use Rattle.std.proofs.lemmas.List.Kept.{AllPairs-from_increasing}
use Rattle.std.specs.Str.{bytes_eq}
use Rattle.idset.specs.Ids.{has}
use Rattle.job_rules.specs.declared.hold.Hold.{Hold}
use Rattle.resource_set.specs.declared.node.Node.{Node}
use Rattle.job_rules.specs.Fits.{AllApart, AreApart, has_unit, nodes_of}
use Rattle.job_rules.proofs.UnitKinds.{apart_from, kind, kind_apart}
use Rattle.job_rules.proofs.Among.{Among, Distinct, among_from, among_map, among_mapped, contains_from}
use Rattle.graph_match.specs.Holds.{IsNew, with_hold, without_hold}

-- numbers that rise from one on
abbrev pub RiseFrom : ℕ → List ℕ → Type 0
RiseFrom n [] = Unit {0}
RiseFrom n (x ∷ xs) = (n ≤ x) × RiseFrom (x + 1) xs

rise_earlier : (m n : ℕ) (xs : List ℕ) → m ≤ n → RiseFrom n xs → RiseFrom m xs
rise_earlier m n [] h r = tt
rise_earlier m n (x ∷ xs) h r = (omega (arith, r.0), r.1)

pub rise_of : (n : ℕ) (xs : List ℕ) → (0 < length xs → n ≤ get_or xs 0 0) → IsStrictlyIncreasing xs → RiseFrom n xs
rise_of n [] h i = tt
rise_of n (x ∷ xs) h i = (h (omega arith), rise_of (x + 1) xs next more)
  where
    next : 0 < length xs → x + 1 ≤ get_or xs 0 0
    next w = let step : x < get_or (x ∷ xs) 1 0 = i 0 (omega arith) in omega (arith, step)

    more : IsStrictlyIncreasing xs
    more k w = let e : suc k + 1 ≡ suc (k + 1) = omega arith in subst (λ n. get_or xs k 0 < get_or (x ∷ xs) n 0) e (i (suc k) (omega arith))

pub rises : (n : ℕ) (xs : List ℕ) → RiseFrom n xs → IsStrictlyIncreasing xs
rises n [] r k h = let no : ⊥ = omega (arith, h) in absurd no
rises n (x ∷ xs) r k h = at (rises (x + 1) xs r.1) k h
  where
    first : (ys : List ℕ) → RiseFrom (x + 1) ys → 0 < length ys → x < get_or ys 0 0
    first [] r h = let no : ⊥ = omega (arith, h) in absurd no
    first (y ∷ ys) r h = omega (arith, r.0)

    at : IsStrictlyIncreasing xs → (k : ℕ) → k + 1 < length (x ∷ xs) → get_or (x ∷ xs) k 0 < get_or (x ∷ xs) (k + 1) 0
    at more zero h = first xs r.1 (omega (arith, h))
    at more (suc k) h = let e : suc (k + 1) ≡ suc k + 1 = omega arith in subst (λ n. get_or xs k 0 < get_or (x ∷ xs) n 0) e (more k (omega (arith, h)))

abbrev pub ids_of : List Hold → List ℕ
ids_of holds = map (λ h. h.id) holds

pub rise_with : (n : ℕ) (hold : Hold) (holds : List Hold) → RiseFrom n (ids_of holds) → n ≤ hold.id → ((h : Hold) → Among h holds → h.id ≢ hold.id) → RiseFrom n (ids_of (with_hold hold holds))
rise_with n hold [] r h new = (h, tt)
rise_with n hold (x ∷ xs) r h new = elim (cases_lt hold.id x.id) [
  | inl below ↦ subst (λ b. RiseFrom n (ids_of (cond b (hold ∷ x ∷ xs) (x ∷ with_hold hold xs)))) (sym (lt-ltb hold.id x.id below)) (h, (omega (arith, below), r.1))
  | inr above ↦
      let other : x.id ≢ hold.id = new x (inl refl) in
      let next : x.id + 1 ≤ hold.id = omega (arith, above, other) in
      subst (λ b. RiseFrom n (ids_of (cond b (hold ∷ x ∷ xs) (x ∷ with_hold hold xs)))) (sym (le-ltb hold.id x.id above)) (r.0, rise_with (x.id + 1) hold xs r.1 next (λ y i. new y (inr i)))
]

pub rise_filter : (p : Hold → Bool) (n : ℕ) (holds : List Hold) → RiseFrom n (ids_of holds) → RiseFrom n (ids_of (filter p holds))
rise_filter p n [] r = tt
rise_filter p n (x ∷ xs) r = at (p x) (rise_filter p (x.id + 1) xs r.1)
  where
    at : (b : Bool) → RiseFrom (x.id + 1) (ids_of (filter p xs)) → RiseFrom n (ids_of (cond b (x ∷ filter p xs) (filter p xs)))
    at true more = (r.0, more)
    at false more = rise_earlier n (x.id + 1) (ids_of (filter p xs)) (omega (arith, r.0)) more

-- the insertion at the place of a new id, and the removal at that of an id
pub inserted : (hold : Hold) (at : ℕ) (holds : List Hold) → Each (λ h. h.id < hold.id) (take at holds) → Each (λ h. hold.id ≤ h.id) (drop at holds) → ((h : Hold) → Among h holds → h.id ≢ hold.id) → take at holds ++ hold ∷ drop at holds ≡ with_hold hold holds
inserted hold zero [] b a new = refl
inserted hold (suc at) [] b a new = refl
inserted hold zero (x ∷ xs) b a new =
    let other : x.id ≢ hold.id = new x (inl refl) in
    let below : hold.id < x.id = omega (arith, a.0, other) in
    ap (λ t. cond t (hold ∷ x ∷ xs) (x ∷ with_hold hold xs)) (sym (lt-ltb hold.id x.id below))
inserted hold (suc at) (x ∷ xs) b a new =
    ap (λ hs. x ∷ hs) (inserted hold at xs b.1 a (λ y i. new y (inr i)))
    ∙ ap (λ t. cond t (hold ∷ x ∷ xs) (x ∷ with_hold hold xs)) (sym (le-ltb hold.id x.id (omega (arith, b.0))))

nothing_gone : (id : ℕ) (holds : List Hold) → ((h : Hold) → Among h holds → h.id ≢ id) → without_hold id holds ≡ holds
nothing_gone id [] new = refl
nothing_gone id (x ∷ xs) new =
    ap (λ b. cond (not b) (x ∷ without_hold id xs) (without_hold id xs)) (ne_eqb x.id id (new x (inl refl)))
    ∙ ap (λ hs. x ∷ hs) (nothing_gone id xs (λ y i. new y (inr i)))

pub unchanged : (id : ℕ) (holds : List Hold) → IsNew id holds → without_hold id holds ≡ holds
unchanged id holds new = nothing_gone id holds (λ h i e. new (contains_from (ids_of holds) id (subst (λ n. Among n (ids_of holds)) e (among_mapped (λ h. h.id) holds h i))))

pub removed : (id at : ℕ) (holds : List Hold) (d : Hold) → Distinct (ids_of holds) → at < length holds → (get_or holds at d).id ≡ id → take at holds ++ drop (suc at) holds ≡ without_hold id holds
removed id at [] d apart h e = let no : ⊥ = omega (arith, h) in absurd no
removed id zero (x ∷ xs) d apart h e =
    sym (ap (λ b. cond (not b) (x ∷ without_hold id xs) (without_hold id xs)) (eq-eqb x.id id e)
    ∙ nothing_gone id xs (λ y i same. apart.0 y.id (among_mapped (λ h. h.id) xs y i) (e ∙ sym same)))
removed id (suc at) (x ∷ xs) d apart h e =
    let within : at < length xs = omega (arith, h) in
    let other : x.id ≢ id = λ same. apart.0 (get_or xs at d).id (there xs at d within) (same ∙ sym e) in
    ap (λ hs. x ∷ hs) (removed id at xs d apart.1 within e)
    ∙ ap (λ b. cond (not b) (x ∷ without_hold id xs) (without_hold id xs)) (sym (ne_eqb x.id id other))
  where
    there : (hs : List Hold) (at : ℕ) (d : Hold) → at < length hs → Among (get_or hs at d).id (ids_of hs)
    there hs at d h = among_mapped (λ h. h.id) hs (get_or hs at d) (among_from hs (get_or hs at d) (at, h, get_or_default hs at (get_or hs at d) d h))

-- what live jobs hold in all
pub has_both : (kind : Node → List ℕ) (a b : List Node) (host : List ℕ) (id : ℕ) → has_unit kind (a ++ b) host id ≡ (has_unit kind a host id || has_unit kind b host id)
has_both kind a b host id = list_any-append (λ node. bytes_eq node.host host && has (kind node) id) a b

swapped : (x h r : Bool) → (x || (h || r)) ≡ (h || (x || r))
swapped true true r = refl
swapped true false r = refl
swapped false h r = refl

pub has_with : (kind : Node → List ℕ) (hold : Hold) (holds : List Hold) (host : List ℕ) (id : ℕ) → has_unit kind (nodes_of (with_hold hold holds)) host id ≡ (has_unit kind hold.nodes host id || has_unit kind (nodes_of holds) host id)
has_with kind hold [] host id = has_both kind hold.nodes [] host id
has_with kind hold (x ∷ xs) host id = at (ltb hold.id x.id)
    (has_both kind x.nodes (nodes_of (with_hold hold xs)) host id ∙ ap (λ b. has_unit kind x.nodes host id || b) (has_with kind hold xs host id)
    ∙ swapped (has_unit kind x.nodes host id) (has_unit kind hold.nodes host id) (has_unit kind (nodes_of xs) host id)
    ∙ ap (λ b. has_unit kind hold.nodes host id || b) (sym (has_both kind x.nodes (nodes_of xs) host id)))
  where
    at : (t : Bool) → has_unit kind (nodes_of (x ∷ with_hold hold xs)) host id ≡ (has_unit kind hold.nodes host id || has_unit kind (nodes_of (x ∷ xs)) host id) → has_unit kind (nodes_of (cond t (hold ∷ x ∷ xs) (x ∷ with_hold hold xs))) host id ≡ (has_unit kind hold.nodes host id || has_unit kind (nodes_of (x ∷ xs)) host id)
    at true later = has_both kind hold.nodes (nodes_of (x ∷ xs)) host id
    at false later = later

pub has_fewer : (kind : Node → List ℕ) (p : Hold → Bool) (holds : List Hold) (host : List ℕ) (id : ℕ) → has_unit kind (nodes_of holds) host id ≡ false → has_unit kind (nodes_of (filter p holds)) host id ≡ false
has_fewer kind p [] host id e = refl
has_fewer kind p (x ∷ xs) host id e =
    let parts = or_parts (has_unit kind x.nodes host id) (has_unit kind (nodes_of xs) host id) (sym (has_both kind x.nodes (nodes_of xs) host id) ∙ e) in
    at (p x) parts.0 (has_fewer kind p xs host id parts.1)
  where
    at : (b : Bool) → has_unit kind x.nodes host id ≡ false → has_unit kind (nodes_of (filter p xs)) host id ≡ false → has_unit kind (nodes_of (cond b (x ∷ filter p xs) (filter p xs))) host id ≡ false
    at true here more = has_both kind x.nodes (nodes_of (filter p xs)) host id ∙ or_from _ _ here more
    at false here more = more

pub apart_filter : (p : Hold → Bool) (holds : List Hold) → AllApart holds → AllApart (filter p holds)
apart_filter p [] a = tt
apart_filter p (x ∷ xs) a = at (p x) (apart_filter p xs a.1)
  where
    at : (b : Bool) → AllApart (filter p xs) → AllApart (cond b (x ∷ filter p xs) (filter p xs))
    at true more = (apart_from x.nodes (nodes_of (filter p xs)) (λ gpu host id e. has_fewer (kind gpu) p xs host id (kind_apart gpu x.nodes (nodes_of xs) a.0 host id e)), more)
    at false more = more

-- one way round: a job apart from others, and the others from it
away : (a b : Bool) → (a ≡ true → b ≡ false) → b ≡ true → a ≡ false
away true b f e = absurd (true≢false (sym e ∙ f refl))
away false b f e = refl

pub apart_with : (hold : Hold) (holds : List Hold) → AreApart hold.nodes (nodes_of holds) → AllApart holds → AllApart (with_hold hold holds)
apart_with hold [] a all = (a, tt)
apart_with hold (x ∷ xs) a all = at (ltb hold.id x.id) (apart_with hold xs tail all.1)
  where
    one : (gpu : Bool) (host : List ℕ) (id : ℕ) → has_unit (kind gpu) hold.nodes host id ≡ true → (has_unit (kind gpu) x.nodes host id ≡ false) × (has_unit (kind gpu) (nodes_of xs) host id ≡ false)
    one gpu host id e = or_parts (has_unit (kind gpu) x.nodes host id) (has_unit (kind gpu) (nodes_of xs) host id) (sym (has_both (kind gpu) x.nodes (nodes_of xs) host id) ∙ kind_apart gpu hold.nodes (nodes_of (x ∷ xs)) a host id e)

    tail : AreApart hold.nodes (nodes_of xs)
    tail = apart_from hold.nodes (nodes_of xs) (λ gpu host id e. (one gpu host id e).1)

    both : AreApart x.nodes (nodes_of (with_hold hold xs))
    both = apart_from x.nodes (nodes_of (with_hold hold xs)) (λ gpu host id e. has_with (kind gpu) hold xs host id ∙ or_from _ _ (away (has_unit (kind gpu) hold.nodes host id) (has_unit (kind gpu) x.nodes host id) (λ t. (one gpu host id t).0) e) (kind_apart gpu x.nodes (nodes_of xs) all.0 host id e))

    at : (t : Bool) → AllApart (with_hold hold xs) → AllApart (cond t (hold ∷ x ∷ xs) (x ∷ with_hold hold xs))
    at true more = (a, all)
    at false more = (both, more)

-- what is held once a job has given its units back
without_head : (x r : Bool) → (x ≡ true → r ≡ false) → ((x || r) && not x) ≡ r
without_head true r f = sym (f refl)
without_head false true f = refl
without_head false false f = refl

without_tail : (x r h s : Bool) → (x ≡ true → r ≡ false) → (h ≡ true → r ≡ true) → (r && not h) ≡ s → ((x || r) && not h) ≡ (x || s)
without_tail true r true s f g e = absurd (true≢false (sym (g refl) ∙ f refl))
without_tail true r false s f g e = refl
without_tail false r h s f g e = e

pub has_held : (kind : Node → List ℕ) (holds : List Hold) (hold : Hold) (host : List ℕ) (id : ℕ) → Among hold holds → has_unit kind hold.nodes host id ≡ true → has_unit kind (nodes_of holds) host id ≡ true
has_held kind [] hold host id i e = absurd i
has_held kind (x ∷ xs) hold host id i e = has_both kind x.nodes (nodes_of xs) host id ∙ elim i [
  | inl same ↦ or_left _ _ (ap (λ h. has_unit kind h.nodes host id) same ∙ e)
  | inr j ↦ or_right _ _ (has_held kind xs hold host id j e)
]

pub has_without : (gpu : Bool) (holds : List Hold) (hold : Hold) (host : List ℕ) (id : ℕ) → Distinct (ids_of holds) → AllApart holds → Among hold holds → (has_unit (kind gpu) (nodes_of holds) host id && not (has_unit (kind gpu) hold.nodes host id)) ≡ has_unit (kind gpu) (nodes_of (without_hold hold.id holds)) host id
has_without gpu [] hold host id d a i = absurd i
has_without gpu (x ∷ xs) hold host id d a i = elim i [
  | inl same ↦
      let gone : without_hold hold.id (x ∷ xs) ≡ xs = ap (λ b. cond (not b) (x ∷ without_hold hold.id xs) (without_hold hold.id xs)) (eq-eqb x.id hold.id (ap (λ h. h.id) same)) ∙ nothing_gone hold.id xs (λ y j e. d.0 y.id (among_mapped (λ h. h.id) xs y j) (ap (λ h. h.id) same ∙ sym e)) in
      ap (λ b. b && not (has_unit (kind gpu) hold.nodes host id)) (has_both (kind gpu) x.nodes (nodes_of xs) host id)
      ∙ ap (λ h. (has_unit (kind gpu) x.nodes host id || has_unit (kind gpu) (nodes_of xs) host id) && not (has_unit (kind gpu) h.nodes host id)) (sym same)
      ∙ without_head (has_unit (kind gpu) x.nodes host id) (has_unit (kind gpu) (nodes_of xs) host id) (kind_apart gpu x.nodes (nodes_of xs) a.0 host id)
      ∙ ap (λ hs. has_unit (kind gpu) (nodes_of hs) host id) (sym gone)
  | inr j ↦
      let kept : without_hold hold.id (x ∷ xs) ≡ x ∷ without_hold hold.id xs = ap (λ b. cond (not b) (x ∷ without_hold hold.id xs) (without_hold hold.id xs)) (ne_eqb x.id hold.id (d.0 hold.id (among_mapped (λ h. h.id) xs hold j))) in
      ap (λ b. b && not (has_unit (kind gpu) hold.nodes host id)) (has_both (kind gpu) x.nodes (nodes_of xs) host id)
      ∙ without_tail (has_unit (kind gpu) x.nodes host id) (has_unit (kind gpu) (nodes_of xs) host id) (has_unit (kind gpu) hold.nodes host id) (has_unit (kind gpu) (nodes_of (without_hold hold.id xs)) host id)
      (kind_apart gpu x.nodes (nodes_of xs) a.0 host id) (has_held (kind gpu) xs hold host id j) (has_without gpu xs hold host id d.1 a.1 j)
      ∙ sym (ap (λ hs. has_unit (kind gpu) (nodes_of hs) host id) kept ∙ has_both (kind gpu) x.nodes (nodes_of (without_hold hold.id xs)) host id)
]

-- where a partition point is by ids
pub ids_rise : (holds : List Hold) → IsStrictlyIncreasing (ids_of holds) → (i j : ℕ) (d : Hold) → i ≤ j → j < length holds → (get_or holds i d).id ≤ (get_or holds j d).id
ids_rise holds r i j d h w = elim (cases_lt i j) [
  | inl below ↦
      let pair : get_or (ids_of holds) i 0 < get_or (ids_of holds) j 0 = AllPairs-from_increasing (ids_of holds) r i j 0 below (subst (λ n. j < n) (sym (length-map holds (λ h. h.id))) w) in
      let a : get_or (ids_of holds) i 0 ≡ (get_or holds i d).id = get_or-map (λ h. h.id) holds i d 0 (omega arith) in
      let b : get_or (ids_of holds) j 0 ≡ (get_or holds j d).id = get_or-map (λ h. h.id) holds j d 0 w in
      omega (arith, pair, a, b)
  | inr above ↦ let same : i ≡ j = omega (arith, above, h) in subst (λ k. (get_or holds i d).id ≤ (get_or holds k d).id) same (omega arith)
]

pub each_before : (P : Hold → Type 0) (at : ℕ) (holds : List Hold) → at ≤ length holds → ((k : ℕ) (d : Hold) → k < at → P (get_or holds k d)) → Each P (take at holds)
each_before P zero holds h f = tt
each_before P (suc at) [] h f = tt
each_before P (suc at) (x ∷ xs) h f = (f 0 x (omega arith), each_before P at xs (omega (arith, h)) (λ k d w. f (suc k) d (omega (arith, w))))

pub each_after : (P : Hold → Type 0) (at : ℕ) (holds : List Hold) → ((k : ℕ) (d : Hold) → at ≤ k → k < length holds → P (get_or holds k d)) → Each P (drop at holds)
each_after P zero [] f = tt
each_after P zero (x ∷ xs) f = (f 0 x (omega arith) (omega arith), each_after P zero xs (λ k d h w. f (suc k) d (omega arith) (omega (arith, w))))
each_after P (suc at) [] f = tt
each_after P (suc at) (x ∷ xs) f = each_after P at xs (λ k d h w. f (suc k) d (omega (arith, h)) (omega (arith, w)))

-- an id that stands at no place isn't there
rise_above : (n : ℕ) (holds : List Hold) (h : Hold) → RiseFrom n (ids_of holds) → Among h holds → n ≤ h.id
rise_above n [] h r i = absurd i
rise_above n (x ∷ xs) h r i = elim i [
  | inl same ↦ omega (arith, r.0, ap (λ y. y.id) same)
  | inr j ↦ omega (arith, r.0, rise_above (x.id + 1) xs h r.1 j)
]

new_in : (n id at : ℕ) (holds : List Hold) → Each (λ h. h.id < id) (take at holds) → Each (λ h. id ≤ h.id) (drop at holds) → RiseFrom n (ids_of holds) → ((d : Hold) → at < length holds → (get_or holds at d).id ≢ id) → (h : Hold) → Among h holds → h.id ≡ id → ⊥
new_in n id at [] b a r f h i e = i
new_in n id zero (x ∷ xs) b a r f h i e = elim i [
  | inl same ↦ f x (omega arith) (ap (λ y. y.id) same ∙ e)
  | inr j ↦
      let other : x.id ≢ id = f x (omega arith) in
      let no : ⊥ = omega (arith, a.0, other, rise_above (x.id + 1) xs h r.1 j, e) in no
]
new_in n id (suc at) (x ∷ xs) b a r f h i e = elim i [
  | inl same ↦ let no : ⊥ = omega (arith, b.0, ap (λ y. y.id) same, e) in no
  | inr j ↦ new_in (x.id + 1) id at xs b.1 a r.1 (λ q w. f q (omega (arith, w))) h j e
]

pub new_at : (holds : List Hold) (id at : ℕ) → Each (λ h. h.id < id) (take at holds) → Each (λ h. id ≤ h.id) (drop at holds) → IsStrictlyIncreasing (ids_of holds) → ((d : Hold) → at < length holds → (get_or holds at d).id ≢ id) → IsNew id holds
new_at holds id at b a r f c =
    let hit = among_map (λ h. h.id) holds id (among_from (ids_of holds) id c) in
    new_in 0 id at holds b a (rise_of 0 (ids_of holds) (λ w. omega arith) r) f hit.0 hit.1 hit.2
