-- An instance goes with all within it.
use Rattle.std.proofs.Common.{◌≡◌, ◌≢◌, ℕ, zero, suc, ◌+◌, ◌<◌, ◌≤◌, ◌==◌, ◌⊎◌, inl, inr, List, [], ◌∷◌, ◌++◌, Bool, true, false, cond, not, ◌&&◌, ◌||◌, Option, Some, None, is_some, length, option_map, fold, refl, sym, ap, ap₂, ◌∙◌, subst, append-nil, append_assoc, arith, true≢false}
use Rattle.std.specs.Prelude.{Contains, IsTrue, filter_map}
use Rattle.std.specs.List.{AllByRecursion as Each, cons_option, list_any, range_with_len}
use Rattle.std.proofs.lemmas.Bool.{eq-eqb, eqb-true, false_from_ne_true}
use Rattle.std.proofs.lemmas.List.Elements.{filter_map-append}
use Rattle.job_rules.proofs.Among.{Among, among_append, among_from, among_left, among_right, any_at, any_from, contains_from}
use Rattle.kvs_rules.specs.Sequence.{EachAfter}
use Rattle.instance_rules.specs.Family.{IsEndOf, LiesIn, Living, MayGo, OfLiving, below, itself}
use Rattle.manager_rules.specs.Times.{IsEndDue}
use Rattle.answers.specs.Chronicle.{Setup, top}
use Rattle.answers.specs.Legal.{IsLegalEntry}
use Rattle.answers.specs.Stretches.{GoUpTo, gone_in}
use Rattle.answers.specs.declared.chronicle.Entry.{Entry}
use Rattle.answers.specs.declared.chronicle.Entry.TheVariants as entry
use Rattle.workload.specs.declared.work.Actor.{Actor}
use Rattle.workload.specs.declared.work.Workload.{Workload}
use Rattle.hierarchy.specs.Births.{Birth, birth_of, is_gone, label_of, lives, numbers}
use Rattle.hierarchy.specs.Families.{family_of, living_in, shuts_down}
use Rattle.hierarchy.specs.Growing.{GoesOn, ParentGoes}
use Rattle.hierarchy.specs.Grows.{GrowsByEnds}
use Rattle.hierarchy.specs.Inside.{GoesWithAll, end_in, ends_within, found_with, inside_of, is_child_of}
use Rattle.hierarchy.specs.Legal.{HasRunGrounds, IsLegalRun, is_end}
use Rattle.hierarchy.specs.Own.{only_if, own_entry, own_of, setup_in}
use Rattle.hierarchy.proofs.Growth.{AreOfOthers, birth_left, ends_grown, from_of, grows, lived_left, lives_left, none_told, own_left, stays}
use Rattle.hierarchy.proofs.Members.{member}
use Rattle.hierarchy.proofs.Nested.{in_family, parent_lives}
use Rattle.hierarchy.proofs.Numbering.{born_exactly, numbers_are, parents_first}
use Rattle.hierarchy.proofs.Owning.{alive}

-- ---- who lies within

-- the first of two, or else this
abbrev first_in : ℕ → Option (ℕ × ℕ) → ℕ
first_in other None = other
first_in other (Some both) = both.0

below_next : (k m : ℕ) → k < m + 1 → k ≢ m → k < m
below_next k m low differ = omega arith

among_same : (p q : ℕ) (xs : List ℕ) → p ≡ q → Among p xs → Among q xs
among_same p q xs same a = subst (λ n. Among n xs) same a

module _ (c : List Entry) (child : ℕ) where
  -- it lives, its parent is behind it, and so are smaller numbers alone
  pub record Link (x : ℕ) (behind : List ℕ) : Type 0 where
    pub b : Birth
    pub alive : lives c x ≡ true
    pub is : birth_of c x ≡ Some b
    pub parent : Among b.parent behind
    pub above : (y : ℕ) → Among y behind → y < x

  abbrev pub Chain : List ℕ → Type 0
  Chain [] = ⊥
  Chain (x ∷ []) = x ≡ child
  Chain (x ∷ (y ∷ behind)) = Link x (y ∷ behind) × Chain (y ∷ behind)

  chain_low : (xs : List ℕ) → Chain xs → (k : ℕ) → Among k xs → child ≤ k
  chain_low [] h k a = absurd h
  chain_low (x ∷ []) h k a = elim a [
    | inl same ↦ let one : x ≡ child = h in omega arith
    | inr none ↦ absurd none
  ]
  chain_low (x ∷ (y ∷ behind)) h k a = elim a [
    | inl same ↦ let low : child ≤ y = chain_low (y ∷ behind) h.1 y (inl refl) in let high : y < x = h.0.above y (inl refl) in omega arith
    | inr more ↦ chain_low (y ∷ behind) h.1 k more
  ]

  -- the first is the greatest
  pub chain_high : (x : ℕ) (behind : List ℕ) → Chain (x ∷ behind) → (k : ℕ) → Among k behind → k < x
  chain_high x [] h k a = absurd a
  chain_high x (y ∷ behind) h k a = h.0.above k a

  chain_behind : (gone : List ℕ) (x : ℕ) (behind : List ℕ) → Chain (gone ++ x ∷ behind) → Chain (x ∷ behind)
  chain_behind [] x behind h = h
  chain_behind (g ∷ []) x behind h = h.1
  chain_behind (g ∷ (f ∷ gone)) x behind h = chain_behind (f ∷ gone) x behind h.1

  -- those before it are greater
  chain_above : (gone : List ℕ) (x : ℕ) (behind : List ℕ) → Chain (gone ++ x ∷ behind) → (k y : ℕ) → Among k gone → Among y (x ∷ behind) → y < k
  chain_above [] x behind h k y a b = absurd a
  chain_above (g ∷ []) x behind h k y a b = elim a [
    | inl same ↦ let high : y < g = h.0.above y b in omega arith
    | inr none ↦ absurd none
  ]
  chain_above (g ∷ (f ∷ gone)) x behind h k y a b = elim a [
    | inl same ↦ let high : y < g = h.0.above y (among_right (f ∷ gone) (x ∷ behind) y b) in omega arith
    | inr more ↦ chain_above (f ∷ gone) x behind h.1 k y more b
  ]

  -- each of them lives
  pub chain_alive : (xs : List ℕ) → Chain xs → lives c child ≡ true → (k : ℕ) → Among k xs → lives c k ≡ true
  chain_alive [] h here k a = absurd h
  chain_alive (x ∷ []) h here k a = elim a [
    | inl same ↦ ap (lives c) (sym same ∙ h) ∙ here
    | inr none ↦ absurd none
  ]
  chain_alive (x ∷ (y ∷ behind)) h here k a = elim a [
    | inl same ↦ ap (lives c) (sym same) ∙ h.0.alive
    | inr more ↦ chain_alive (y ∷ behind) h.1 here k more
  ]

  -- what is found among the numbers below this one
  pub record Found (m : ℕ) (found : List ℕ) : Type 0 where
    pub chain : Chain found
    pub under : (k : ℕ) → Among k found → (k < m) ⊎ (k ≡ child)
    pub complete : (k : ℕ) (b : Birth) → k < m → lives c k ≡ true → birth_of c k ≡ Some b → Among b.parent found → Among k found

  test_from : (p : ℕ) (found : List ℕ) → Among p found → list_any (λ n. n == p) found ≡ true
  test_from p found a = any_at (λ n. n == p) found p a (eq-eqb p p refl)

  among_test : (p : ℕ) (found : List ℕ) → list_any (λ n. n == p) found ≡ true → Among p found
  among_test p found h = let f = any_from (λ n. n == p) found h in subst (λ n. Among n found) (eqb-true f.0 p f.2) f.1

  first_found : Found 0 (child ∷ [])
  first_found = record {
    chain = refl;
    under = λ k a. elim a [ inl same ↦ inr (sym same) | inr none ↦ absurd none ];
    complete = λ k b low h is a. absurd (omega arith);
  }

  module _ (set : Setup) (run : IsLegalRun set c) (m : ℕ) where
    add : (found : List ℕ) → Found m found → (b : Birth) → lives c m ≡ true → birth_of c m ≡ Some b → Among b.parent found → Found (m + 1) (m ∷ found)
    add [] f b h is a = absurd a
    add (y ∷ ys) f b h is a =
        let first : b.parent < m = parents_first set c run m b is in
        let low : child ≤ b.parent = chain_low (y ∷ ys) f.chain b.parent a in
        record {
          chain = (record { b = b; alive = h; is = is; parent = a; above = λ k at. elim (f.under k at) [ inl less ↦ less | inr same ↦ omega arith ] }, f.chain);
          under = λ k at. elim at [
            | inl same ↦ inl (omega arith)
            | inr more ↦ elim (f.under k more) [ inl less ↦ inl (omega arith) | inr same ↦ inr same ]
          ];
          complete = λ k d less hk isk at. on k d less hk isk at;
        }
      where
        on : (k : ℕ) (d : Birth) → k < m + 1 → lives c k ≡ true → birth_of c k ≡ Some d → Among d.parent (m ∷ y ∷ ys) → Among k (m ∷ y ∷ ys)
        on k d less hk isk at = cases (k == m) refl
          where
            cases : (t : Bool) → (k == m) ≡ t → Among k (m ∷ y ∷ ys)
            cases true same = inl (sym (eqb-true k m same))
            cases false other =
                let lower : k < m = below_next k m less (λ same. true≢false (sym (eq-eqb k m same) ∙ other)) in
                let firstk : d.parent < k = parents_first set c run k d isk in
                elim at [
                  | inl same ↦ absurd (omega arith)
                  | inr more ↦ inr (f.complete k d lower hk isk more)
                ]

    keep : (found : List ℕ) → Found m found → (lives c m && is_child_of found (birth_of c m)) ≡ false → Found (m + 1) found
    keep found f none = record {
      chain = f.chain;
      under = λ k at. elim (f.under k at) [ inl less ↦ inl (omega arith) | inr same ↦ inr same ];
      complete = λ k d less hk isk at. on k d less hk isk at (k == m) refl;
    }
      where
        on : (k : ℕ) (d : Birth) → k < m + 1 → lives c k ≡ true → birth_of c k ≡ Some d → Among d.parent found → (t : Bool) → (k == m) ≡ t → Among k found
        on k d less hk isk at true same =
            let one : k ≡ m = eqb-true k m same in
            let shown : (lives c m && is_child_of found (birth_of c m)) ≡ true =
            ap₂ (λ a o. a && is_child_of found o) (ap (lives c) (sym one) ∙ hk) (ap (birth_of c) (sym one) ∙ isk) ∙ test_from d.parent found at in
            absurd (true≢false (sym shown ∙ none))
        on k d less hk isk at false other = f.complete k d (below_next k m less (λ same. true≢false (sym (eq-eqb k m same) ∙ other))) hk isk at

    step : (found : List ℕ) → Found m found → Found (m + 1) (found_with c found m)
    step found f = by (lives c m) refl (birth_of c m) refl
      where
        child_test : (b : Birth) → lives c m ≡ true → birth_of c m ≡ Some b → (t : Bool) → list_any (λ n. n == b.parent) found ≡ t
            → Found (m + 1) (cond (lives c m && is_child_of found (birth_of c m)) (m ∷ found) found)
        child_test b h is true shown =
            subst (λ t. Found (m + 1) (cond t (m ∷ found) found)) (sym (ap₂ (λ a o. a && is_child_of found o) h is ∙ shown))
            (add found f b h is (among_test b.parent found shown))
        child_test b h is false other =
            let none : (lives c m && is_child_of found (birth_of c m)) ≡ false = ap₂ (λ a o. a && is_child_of found o) h is ∙ other in
            subst (λ t. Found (m + 1) (cond t (m ∷ found) found)) (sym none) (keep found f none)

        not_kept : (lives c m && is_child_of found (birth_of c m)) ≡ false → Found (m + 1) (cond (lives c m && is_child_of found (birth_of c m)) (m ∷ found) found)
        not_kept none = subst (λ t. Found (m + 1) (cond t (m ∷ found) found)) (sym none) (keep found f none)

        by : (t : Bool) → lives c m ≡ t → (o : Option Birth) → birth_of c m ≡ o → Found (m + 1) (cond (lives c m && is_child_of found (birth_of c m)) (m ∷ found) found)
        by false dead o is = not_kept (ap (λ a. a && is_child_of found (birth_of c m)) dead)
        by true h None is = not_kept (ap₂ (λ a o. a && is_child_of found o) h is)
        by true h (Some b) is = child_test b h is (list_any (λ n. n == b.parent) found) refl

  found_all : (set : Setup) → IsLegalRun set c → (n m : ℕ) (found : List ℕ) → Found m found → Found (m + n) (fold (found_with c) found (range_with_len m n))
  found_all set run zero m found f = subst (λ k. Found k found) (let e : m ≡ m + zero = omega arith in e) f
  found_all set run (suc n) m found f =
      subst (λ k. Found k (fold (found_with c) (found_with c found m) (range_with_len (m + 1) n))) (let e : (m + 1) + n ≡ m + suc n = omega arith in e)
      (found_all set run n (m + 1) (found_with c found m) (step set run m found f))

  pub found_inside : (set : Setup) → IsLegalRun set c → Found (length (numbers c)) (inside_of c child)
  found_inside set run =
      let n = length (numbers c) in
      subst (λ ns. Found n (fold (found_with c) (child ∷ []) ns)) (sym (numbers_are set c run))
      (subst (λ k. Found k (fold (found_with c) (child ∷ []) (range_with_len 0 n))) (let e : 0 + n ≡ n = omega arith in e)
      (found_all set run n 0 (child ∷ []) first_found))

-- in a chronicle of the same births whatever lives of a row lies within its last
module _ (set : Setup) (c : List Entry) (child : ℕ) (d : List Entry) (births : (k : ℕ) → birth_of d k ≡ birth_of c k) where
  lies : (xs : List ℕ) → Chain c child xs → ((k : ℕ) → Among k xs → lives d k ≡ true) → (k : ℕ) → Among k xs → LiesIn (family_of set d) child k
  lies [] h alive k a = absurd h
  lies (y ∷ []) h alive k a = elim a [
    | inl same ↦ subst (LiesIn (family_of set d) child) (sym h ∙ same) itself
    | inr none ↦ absurd none
  ]
  lies (y ∷ (z ∷ xs)) h alive k a = elim a [
    | inl same ↦
        subst (LiesIn (family_of set d) child) same
        (below (living_in set d y) h.0.b.parent h.0.b.job (in_family set d y (alive y (inl refl))) (ap from_of (births y ∙ h.0.is)) (lies (z ∷ xs) h.1 (λ m at. alive m (inr at)) h.0.b.parent h.0.parent))
    | inr more ↦ lies (z ∷ xs) h.1 (λ m at. alive m (inr at)) k more
  ]

-- a child has a birth of its parent
born_of : (o : Option Birth) (parent job : ℕ) → from_of o ≡ Some (parent, job) → (d : Birth) × (o ≡ Some d) × (parent ≡ d.parent)
born_of None parent job e = cc
born_of (Some d) parent job e = (d, refl, sym (ap (first_in 0) e))

module _ (set : Setup) (c : List Entry) (run : IsLegalRun set c) (child : ℕ) (here : lives c child ≡ true) where
  row_all : Found c child (length (numbers c)) (inside_of c child)
  row_all = found_inside c child set run

  pub has_last : (xs : List ℕ) → Chain c child xs → Among child xs
  has_last [] h = absurd h
  has_last (x ∷ []) h = inl h
  has_last (x ∷ (y ∷ xs)) h = inr (has_last (y ∷ xs) h.1)

  reach_step : (y : Living) (parent job : ℕ) → Contains (family_of set c) y → y.from ≡ Some (parent, job) → Among parent (inside_of c child) → Among y.number (inside_of c child)
  reach_step y parent job at from up =
      let m = member set c y at in
      let f = born_of (birth_of c y.number) parent job (ap (λ (l : Living). l.from) (sym {a = y} m.is) ∙ from) in
      row_all.complete y.number f.0 ((born_exactly set c y.number run).0 (alive c y.number m.lives_so).0) m.lives_so f.1 (among_same parent f.0.parent (inside_of c child) f.2 up)

  reach : (k : ℕ) → LiesIn (family_of set c) child k → Among k (inside_of c child)
  reach k itself = has_last (inside_of c child) row_all.chain
  reach k (below y parent job at from up) = reach_step y parent job at from (reach parent up)

  -- who is found are the living instances that lie within it
  pub found_exactly : (k : ℕ) → (Contains (inside_of c child) k → (lives c k ≡ true) × LiesIn (family_of set c) child k)
      × ((lives c k ≡ true) × LiesIn (family_of set c) child k → Contains (inside_of c child) k)
  found_exactly k =
      let xs = inside_of c child in
      let all = chain_alive c child xs row_all.chain here in
      (λ at. let a = among_from xs k at in (all k a, lies set c child c (λ n. refl) xs row_all.chain all k a), λ h. contains_from xs k (reach k h.1))

-- ---- the ends of some of them

module _ (set : Setup) (c : List Entry) where
  abbrev ends_for : List ℕ → List Entry
  ends_for xs = filter_map (end_in set c) xs

  -- each of them was born
  abbrev AllBorn : List ℕ → Type 0
  AllBorn xs = (k : ℕ) → Among k xs → (b : Birth) × (birth_of c k ≡ Some b)

  end_is : (k : ℕ) (b : Birth) → birth_of c k ≡ Some b → end_in set c k ≡ Some (entry.Gone k b.parent b.job (living_in set c k).shuts)
  end_is k b is = ap (option_map (λ b. entry.Gone k b.parent b.job (living_in set c k).shuts)) is

  ends_first : (k : ℕ) (b : Birth) (xs : List ℕ) → birth_of c k ≡ Some b → ends_for (k ∷ xs) ≡ entry.Gone k b.parent b.job (living_in set c k).shuts ∷ ends_for xs
  ends_first k b xs is = ap (λ o. cons_option o (ends_for xs)) (end_is k b is)

  are_ends : (xs : List ℕ) → Each (λ e. is_end e ≡ true) (ends_for xs)
  are_ends [] = tt
  are_ends (x ∷ xs) = by (birth_of c x) (are_ends xs)
    where
      by : (o : Option Birth) → Each (λ e. is_end e ≡ true) (ends_for xs)
          → Each (λ e. is_end e ≡ true) (cons_option (option_map (λ b. entry.Gone x b.parent b.job (living_in set c x).shuts) o) (ends_for xs))
      by None h = h
      by (Some b) h = (refl, h)

  gone_for : (xs : List ℕ) → AllBorn xs → (k : ℕ) → is_gone (ends_for xs) k ≡ list_any (λ n. n == k) xs
  gone_for [] h k = refl
  gone_for (x ∷ xs) h k =
      let b = h x (inl refl) in
      ap (λ es. is_gone es k) (ends_first x b.0 xs b.1) ∙ ap₂ (λ s t. s || t) (turned k x) (gone_for xs (λ n a. h n (inr a)) k)
    where
      turned : (k x : ℕ) → (k == x) ≡ (x == k)
      turned k x = by (x == k) refl
        where
          by : (t : Bool) → (x == k) ≡ t → (k == x) ≡ t
          by true is = eq-eqb k x (sym (eqb-true x k is))
          by false is = false_from_ne_true (k == x) (λ t. true≢false (sym (eq-eqb x k (sym (eqb-true k x t))) ∙ is))

  -- the numbers that they end are these
  numbers_for : (xs : List ℕ) → AllBorn xs → filter_map gone_in (ends_for xs) ≡ xs
  numbers_for [] h = refl
  numbers_for (x ∷ xs) h =
      let b = h x (inl refl) in
      ap (filter_map gone_in) (ends_first x b.0 xs b.1) ∙ ap (λ l. x ∷ l) (numbers_for xs (λ n a. h n (inr a)))

  -- nobody shuts down by what it is told of its children
  told_quiet : (work : Workload) (actors : List Actor) (label : Option (List ℕ)) (k : ℕ) (gone : List Entry) → Each (λ e. is_end e ≡ true) gone
      → list_any (shuts_down work) (filter_map (own_entry actors label k) gone) ≡ false
  told_quiet work actors label k [] h = refl
  told_quiet work actors label k (entry.Gone child parent job shut ∷ gone) h = by (parent == k) (told_quiet work actors label k gone h.1)
    where
      by : (t : Bool) → list_any (shuts_down work) (filter_map (own_entry actors label k) gone) ≡ false
          → list_any (shuts_down work) (cons_option (only_if t (entry.Gone child top job shut)) (filter_map (own_entry actors label k) gone)) ≡ false
      by true again = again
      by false again = again
  told_quiet work actors label k (_ ∷ gone) h = absurd (true≢false (sym h.0))

  -- who lives behind ends shuts down as before
  shuts_same : (gone : List Entry) → Each (λ e. is_end e ≡ true) gone → (k : ℕ) → lives (c ++ gone) k ≡ true → (living_in set (c ++ gone) k).shuts ≡ (living_in set c k).shuts
  shuts_same gone n k h =
      let g = grows set c gone k (birth_left c gone n k) (filter_map (own_entry set.work.actors (label_of c k) k) gone) (own_left set k gone c n h) in
      g.shuts ∙ ap (λ t. (living_in set c k).shuts || (is_some (birth_of c k) && t)) (told_quiet set.work set.work.actors (label_of c k) k gone n) ∙ plain (living_in set c k).shuts (is_some (birth_of c k))
    where
      plain : (a b : Bool) → (a || (b && false)) ≡ a
      plain true b = refl
      plain false true = refl
      plain false false = refl

  others_for : (p : ℕ) (xs : List ℕ) → ((k : ℕ) (b : Birth) → Among k xs → birth_of c k ≡ Some b → b.parent ≢ p) → AreOfOthers p (ends_for xs)
  others_for p [] h = tt
  others_for p (x ∷ xs) h = by (birth_of c x) refl (others_for p xs (λ k b a is. h k b (inr a) is))
    where
      by : (o : Option Birth) → birth_of c x ≡ o → AreOfOthers p (ends_for xs)
          → AreOfOthers p (cons_option (option_map (λ b. entry.Gone x b.parent b.job (living_in set c x).shuts) o) (ends_for xs))
      by None is more = more
      by (Some b) is more = (
        (λ child parent job shut same.
            let one : b.parent ≡ parent = cc in
            false_from_ne_true (parent == p) (λ t. h x b (inl refl) is (one ∙ eqb-true parent p t))),
        more,
      )

-- ---- each may go

module _ (set : Setup) (c : List Entry) (b : Birth) (run : IsLegalRun set c) (here : lives c b.child ≡ true) (is : birth_of c b.child ≡ Some b)
    (over : IsEndOf (family_of set c) (living_in set c b.child)) where
  abbrev within : List ℕ
  within = inside_of c b.child

  found : Found c b.child (length (numbers c)) within
  found = found_inside c b.child set run

  abbrev Row : List ℕ → Type 0
  Row xs = Chain c b.child xs

  -- each of a row was born
  row_born : (xs : List ℕ) → Row xs → AllBorn set c xs
  row_born [] h k a = absurd h
  row_born (x ∷ []) h k a = elim a [
    | inl same ↦ (b, ap (birth_of c) (sym same ∙ h) ∙ is)
    | inr none ↦ absurd none
  ]
  row_born (x ∷ (y ∷ xs)) h k a = elim a [
    | inl same ↦ (h.0.b, ap (birth_of c) (sym same) ∙ h.0.is)
    | inr more ↦ row_born (y ∷ xs) h.1 k more
  ]

  -- the parent of all isn't among them
  bearer_low : b.parent < b.child
  bearer_low = parents_first set c run b.child b is

  same_birth : (k : ℕ) (one two : Birth) → birth_of c k ≡ Some one → birth_of c k ≡ Some two → one ≡ two
  same_birth k one two e f = let both : Some one ≡ Some two = sym e ∙ f in cc

  -- the parent of one of a row is among it, or is the parent of all
  row_parents : (xs : List ℕ) → Row xs → (k : ℕ) (d : Birth) → Among k xs → birth_of c k ≡ Some d → Among d.parent xs ⊎ ((k ≡ b.child) × (d.parent ≡ b.parent))
  row_parents [] h k d a isk = absurd h
  row_parents (x ∷ []) h k d a isk = elim a [
    | inl same ↦ let one : k ≡ b.child = sym same ∙ h in inr (one, ap (λ (y : Birth). y.parent) (same_birth b.child d b (ap (birth_of c) (sym one) ∙ isk) is))
    | inr none ↦ absurd none
  ]
  row_parents (x ∷ (y ∷ xs)) h k d a isk = elim a [
    | inl same ↦ inl (inr (subst (λ (e : Birth). Among e.parent (y ∷ xs)) (same_birth k h.0.b d (ap (birth_of c) (sym same) ∙ h.0.is) isk) h.0.parent))
    | inr more ↦ elim (row_parents (y ∷ xs) h.1 k d more isk) [ inl there ↦ inl (inr there) | inr last ↦ inr last ]
  ]

  -- when those before one of them are gone
  module _ (gone : List ℕ) (x : ℕ) (behind : List ℕ) (split : within ≡ gone ++ x ∷ behind) where
    row : Row (gone ++ x ∷ behind)
    row = subst Row split found.chain

    row_here : Row (x ∷ behind)
    row_here = chain_behind c b.child gone x behind row

    born_before : AllBorn set c gone
    born_before k a = row_born (gone ++ x ∷ behind) row k (among_left gone (x ∷ behind) k a)

    abbrev past : List Entry
    past = ends_for set c gone

    n : Each (λ e. is_end e ≡ true) past
    n = are_ends set c gone

    gone_is : (k : ℕ) → is_gone past k ≡ list_any (λ m. m == k) gone
    gone_is k = gone_for set c gone born_before k

    -- whoever isn't above the first that is left lives on
    lives_on : (k : ℕ) → lives c k ≡ true → k ≤ x → lives (c ++ past) k ≡ true
    lives_on k h low =
        lives_left c past n k ∙ ap₂ (λ s t. s && not t) h
        (gone_is k ∙ false_from_ne_true (list_any (λ m. m == k) gone) (λ t.
        let at = among_test c b.child k gone t in
        let high : x < k = chain_above c b.child gone x behind row k x at (inl refl) in
        absurd (omega arith)))

    here_alive : lives (c ++ past) x ≡ true
    here_alive = lives_on x (chain_alive c b.child (x ∷ behind) row_here here x (inl refl)) (omega arith)

    child_low : b.child ≤ x
    child_low = chain_low c b.child (x ∷ behind) row_here x (inl refl)

    child_alive : lives (c ++ past) b.child ≡ true
    child_alive = lives_on b.child here child_low

    bearer_was : lives c b.parent ≡ true
    bearer_was = parent_lives set c run b.child b here is

    bearer_alive : lives (c ++ past) b.parent ≡ true
    bearer_alive = lives_on b.parent bearer_was (let low = bearer_low in let high = child_low in omega arith)

    -- the parent of all is told nothing yet
    bearer_same : living_in set (c ++ past) b.parent ≡ living_in set c b.parent
    bearer_same =
        let none = none_told set.work.actors (label_of c b.parent) b.parent past n (others_for set c b.parent gone apart) in
        (stays set c past b.parent (birth_left c past n b.parent) (own_left set b.parent past c n bearer_alive ∙ ap (λ l. own_of set c b.parent ++ l) none ∙ append-nil (own_of set c b.parent))).living
      where
        apart : (k : ℕ) (d : Birth) → Among k gone → birth_of c k ≡ Some d → d.parent ≢ b.parent
        apart k d a isk same =
            let low = bearer_low in
            elim (row_parents (gone ++ x ∷ behind) row k d (among_left gone (x ∷ behind) k a) isk) [
              | inl there ↦ let high : b.child ≤ d.parent = chain_low c b.child (gone ++ x ∷ behind) row d.parent there in omega arith
              | inr last ↦
                  let one : k ≡ b.child = last.0 in
                  let above : x < k = chain_above c b.child gone x behind row k x a (inl refl) in
                  let high = child_low in omega arith
            ]

    -- the end of the outermost is due still
    over_still : IsEndOf (family_of set (c ++ past)) (living_in set (c ++ past) b.child)
    over_still =
        let shuts : (living_in set (c ++ past) b.child).shuts ≡ (living_in set c b.child).shuts = shuts_same set c past n b.child child_alive in
        let was = member set c over.parent over.lives in
        let from : from_of (birth_of c b.child) ≡ Some (over.parent.number, over.job) = over.from in
        let pair : ◌≡◌ {A = Option (ℕ × ℕ)} (Some (b.parent, b.job)) (Some (over.parent.number, over.job)) = ap from_of (sym is) ∙ from in
        let number : b.parent ≡ over.parent.number = first_same pair in
        let same : living_in set (c ++ past) b.parent ≡ over.parent = bearer_same ∙ ap (living_in set c) number ∙ sym {a = over.parent} was.is in
        record {
          here = in_family set (c ++ past) b.child child_alive;
          parent = over.parent;
          lives = subst (Contains (family_of set (c ++ past))) same (in_family set (c ++ past) b.parent bearer_alive);
          job = over.job;
          from = ap from_of (birth_left c past n b.child) ∙ from;
          due = subst (λ (t : Bool). OfLiving over.parent (λ desk. IsEndDue desk.scene (IsTrue t) over.job)) (sym shuts) over.due;
        }
      where
        first_same : {p q r s : ℕ} → ◌≡◌ {A = Option (ℕ × ℕ)} (Some (p, q)) (Some (r, s)) → p ≡ r
        first_same {p} {q} {r} {s} e = ap (first_in 0) e

    left_alive : (k : ℕ) → Among k (x ∷ behind) → lives (c ++ past) k ≡ true
    left_alive k a = lives_on k (chain_alive c b.child (x ∷ behind) row_here here k a) (elim a [
      | inl same ↦ omega arith
      | inr more ↦ (let low : k < x = chain_high c b.child x behind row_here k more in omega arith)
    ])

    -- whatever lies within this one is it, or is greater and one of all
    abbrev InnerOne : ℕ → Type 0
    InnerOne k = (k ≡ x) ⊎ (Among k within × (x < k))

    inner_step : (y : Living) (parent job : ℕ) → Contains (family_of set (c ++ past)) y → y.from ≡ Some (parent, job) → InnerOne parent → Among y.number within × (x < y.number)
    inner_step y parent job at from up =
        let m = member set (c ++ past) y at in
        let f = born_of (birth_of (c ++ past) y.number) parent job (ap (λ (l : Living). l.from) (sym {a = y} m.is) ∙ from) in
        let isk : birth_of c y.number ≡ Some f.0 = sym (birth_left c past n y.number) ∙ f.1 in
        let was : lives c y.number ≡ true = (lived_left c past n y.number m.lives_so).0 in
        let low : f.0.parent < y.number = parents_first set c run y.number f.0 isk in
        let one : parent ≡ f.0.parent = f.2 in
        let high : x ≤ parent = reached.1 in
        let known : y.number < length (numbers c) = (born_exactly set c y.number run).0 (alive c y.number was).0 in
        (found.complete y.number f.0 known was isk (among_same parent f.0.parent within one reached.0), omega arith)
      where
        reached : Among parent within × (x ≤ parent)
        reached = elim up [
          | inl same ↦ (subst (λ m. Among m within) (sym same) (subst (Among x) (sym split) (among_right gone (x ∷ behind) x (inl refl))), omega arith)
          | inr more ↦ (more.0, (let low : x < parent = more.1 in omega arith))
        ]

    inner : (k : ℕ) → LiesIn (family_of set (c ++ past)) x k → InnerOne k
    inner k itself = inl refl
    inner k (below y parent job at from up) = inr (inner_step y parent job at from (inner parent up))

    may_go : MayGo (family_of set (c ++ past)) (living_in set (c ++ past) x)
    may_go = record {
      lives = in_family set (c ++ past) x here_alive;
      outer = living_in set (c ++ past) b.child;
      over = over_still;
      inside = lies set c b.child (c ++ past) (birth_left c past n) (x ∷ behind) row_here left_alive x (inl refl);
      alone = λ other at lie. elim (inner other.number lie) [
        | inl same ↦ same
        | inr more ↦
            let m = member set (c ++ past) other at in
            let now = lived_left c past n other.number m.lives_so in
            elim (among_append gone (x ∷ behind) other.number (subst (Among other.number) split more.0)) [
              | inl went ↦ absurd (true≢false (sym (gone_is other.number ∙ test_from c b.child other.number gone went) ∙ now.1))
              | inr left ↦
                  let high : x < other.number = more.1 in
                  elim left [
                    | inl same ↦ absurd (omega arith)
                    | inr after ↦ let low : other.number < x = chain_high c b.child x behind row_here other.number after in absurd (omega arith)
                  ]
            ]
      ];
    }

    ground : (d : Birth) → birth_of c x ≡ Some d → HasRunGrounds set (c ++ past) (entry.Gone x d.parent d.job (living_in set c x).shuts)
    ground d isx = record {
      living = living_in set (c ++ past) x;
      named = refl;
      from = ap from_of (birth_left c past n x ∙ isx);
      by = shuts_same set c past n x here_alive;
      may = may_go;
    }

  -- ---- all go

  grounds : (behind gone : List ℕ) → within ≡ gone ++ behind → EachAfter (HasRunGrounds set) (c ++ ends_for set c gone) (ends_for set c behind)
  grounds [] gone split = tt
  grounds (x ∷ behind) gone split =
      let row = subst Row split found.chain in
      let d = row_born (gone ++ x ∷ behind) row x (among_right gone (x ∷ behind) x (inl refl)) in
      let e : Entry = entry.Gone x d.0.parent d.0.job (living_in set c x).shuts in
      let more = grounds behind (gone ++ x ∷ []) (split ∙ sym (append_assoc gone (x ∷ []) behind)) in
      let pushed : c ++ ends_for set c (gone ++ x ∷ []) ≡ (c ++ ends_for set c gone) ++ e ∷ []
      = ap (λ l. c ++ l) (filter_map-append (end_in set c) gone (x ∷ []) ∙ ap (λ l. ends_for set c gone ++ l) (ends_first set c x d.0 [] d.1)) ∙ sym (append_assoc c (ends_for set c gone) (e ∷ [])) in
      subst (EachAfter (HasRunGrounds set) (c ++ ends_for set c gone)) (sym (ends_first set c x d.0 behind d.1))
      (ground gone x behind split d.0 d.1, subst (λ base. EachAfter (HasRunGrounds set) base (ends_for set c behind)) pushed more)

  -- the outermost is the last
  last_of : (xs : List ℕ) → Row xs → (front : List ℕ) × (xs ≡ front ++ b.child ∷ [])
  last_of [] h = absurd h
  last_of (x ∷ []) h = ([], ap (λ k. k ∷ []) h)
  last_of (x ∷ (y ∷ xs)) h = let more = last_of (y ∷ xs) h.1 in (x ∷ more.0, ap (λ l. x ∷ l) more.1)

  abbrev front : List ℕ
  front = (last_of within found.chain).0

  split_last : within ≡ front ++ b.child ∷ []
  split_last = (last_of within found.chain).1

  abbrev last_end : Entry
  last_end = entry.Gone b.child b.parent b.job (living_in set c b.child).shuts

  ends_split : ends_within set c b.child ≡ ends_for set c front ++ last_end ∷ []
  ends_split = ap (filter_map (end_in set c)) split_last ∙ filter_map-append (end_in set c) front (b.child ∷ []) ∙ ap (λ l. ends_for set c front ++ l) (ends_first set c b.child b [] is)

  all_born : AllBorn set c within
  all_born = row_born within found.chain

  all_gone : (k : ℕ) → is_gone (ends_within set c b.child) k ≡ list_any (λ m. m == k) within
  all_gone k = gone_for set c within all_born k

  -- the parent of each but the last goes too
  parents_go : (xs : List ℕ) → ((k : ℕ) (d : Birth) → Among k xs → birth_of c k ≡ Some d → Among d.parent within) → Each (ParentGoes (ends_within set c b.child)) (ends_for set c xs)
  parents_go [] h = tt
  parents_go (x ∷ xs) h = by (birth_of c x) refl (parents_go xs (λ k d a isk. h k d (inr a) isk))
    where
      by : (o : Option Birth) → birth_of c x ≡ o → Each (ParentGoes (ends_within set c b.child)) (ends_for set c xs)
          → Each (ParentGoes (ends_within set c b.child)) (cons_option (option_map (λ d. entry.Gone x d.parent d.job (living_in set c x).shuts) o) (ends_for set c xs))
      by None isx more = more
      by (Some d) isx more = (all_gone d.parent ∙ test_from c b.child d.parent within (h x d (inl refl) isx), more)

  front_parents : (k : ℕ) (d : Birth) → Among k front → birth_of c k ≡ Some d → Among d.parent within
  front_parents k d a isk =
      let row = subst Row split_last found.chain in
      elim (row_parents within found.chain k d (subst (Among k) (sym split_last) (among_left front (b.child ∷ []) k a)) isk) [
        | inl there ↦ there
        | inr last ↦ let high : b.child < k = chain_above c b.child front b.child [] row k b.child a (inl refl) in let one : k ≡ b.child = last.0 in absurd (omega arith)
      ]

  -- the stretch
  go_up : (xs : List ℕ) → Row xs → GoUpTo b.child (ends_for set c xs)
  go_up [] h = absurd h
  go_up (x ∷ []) h = subst (GoUpTo b.child) (sym (ends_first set c x b [] (ap (birth_of c) h ∙ is))) (ap Some h)
  go_up (x ∷ (y ∷ xs)) h =
      let d = row_born (y ∷ xs) h.1 y (inl refl) in
      let rest : ends_for set c (y ∷ xs) ≡ entry.Gone y d.0.parent d.0.job (living_in set c y).shuts ∷ ends_for set c xs = ends_first set c y d.0 xs d.1 in
      let more : GoUpTo b.child (ends_for set c (y ∷ xs)) = go_up (y ∷ xs) h.1 in
      let nums : filter_map gone_in (ends_for set c (y ∷ xs)) ≡ y ∷ xs = numbers_for set c (y ∷ xs) (row_born (y ∷ xs) h.1) in
      let there : Contains (filter_map gone_in (ends_for set c (y ∷ xs))) h.0.b.parent = subst (λ l. Contains l h.0.b.parent) (sym nums) (contains_from (y ∷ xs) h.0.b.parent h.0.parent) in
      subst (GoUpTo b.child) (sym (ends_first set c x h.0.b (y ∷ xs) h.0.is ∙ ap (λ l. entry.Gone x h.0.b.parent h.0.b.job (living_in set c x).shuts ∷ l) rest))
      (subst (λ l. Contains (filter_map gone_in l) h.0.b.parent) rest there, subst (GoUpTo b.child) rest more)

  module _ (on : GoesOn set c) (follows : IsLegalEntry (setup_in set c b.parent) (own_of set c b.parent) (entry.Gone b.child top b.job (living_in set c b.child).shuts)) where
    all_grounds : EachAfter (HasRunGrounds set) c (ends_for set c front ++ last_end ∷ [])
    all_grounds = subst (EachAfter (HasRunGrounds set) c) ends_split (subst (λ base. EachAfter (HasRunGrounds set) base (ends_within set c b.child)) (append-nil c) (grounds within [] refl))

    all_parents : Each (ParentGoes (ends_for set c front ++ last_end ∷ [])) (ends_for set c front)
    all_parents = subst (λ g. Each (ParentGoes g) (ends_for set c front)) ends_split (parents_go front front_parents)

    all_grow : GrowsByEnds set c (ends_within set c b.child) b.child b.parent b.job (living_in set c b.child).shuts
    all_grow = subst (λ g. GrowsByEnds set c g b.child b.parent b.job (living_in set c b.child).shuts) (sym ends_split)
        (ends_grown set c (ends_for set c front) b.child b.parent b.job (living_in set c b.child).shuts on all_parents all_grounds follows)

    pub goes_with_all : GoesWithAll set c b
    goes_with_all = record {
      grows = all_grow;
      lives_so = λ k. all_grow.lives_so k ∙ ap (λ t. lives c k && not t) (all_gone k);
      bearer = all_grow.lives_so b.parent ∙ ap₂ (λ s t. s && not t) (parent_lives set c run b.child b here is)
          (all_gone b.parent ∙ false_from_ne_true (list_any (λ m. m == b.parent) within) (λ t.
          let low = bearer_low in
          let high : b.child ≤ b.parent = chain_low c b.child within found.chain b.parent (among_test c b.child b.parent within t) in
          absurd (omega arith)));
      stretch = go_up within found.chain;
    }
