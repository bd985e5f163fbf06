-- Marks on the instances of a run find those that lie within one of them.
use Rattle.std.proofs.Common.{◌≡◌, ◌≢◌, ℕ, zero, suc, ◌<◌, ◌==◌, ◌⊎◌, inl, inr, List, [], ◌∷◌, Bool, true, false, cond, ◌&&◌, ◌||◌, Option, Some, None, length, refl, sym, ap, ap₂, ◌∙◌, subst, arith, true≢false}
use Rattle.std.proofs.lemmas.Bool.{and_parts, eq-eqb, eqb-true, or_cases, or_left, or_right}
use Rattle.job_rules.proofs.Among.{Among}
use Rattle.answers.specs.Chronicle.{Setup}
use Rattle.answers.specs.declared.chronicle.Entry.{Entry}
use Rattle.hierarchy.specs.Births.{Birth, birth_of, lives, numbers}
use Rattle.hierarchy.specs.Inside.{AreMarked, inside_of, is_parent_marked, marked_below}
use Rattle.hierarchy.specs.Legal.{IsLegalRun}
use Rattle.hierarchy.proofs.Inside.{Chain, Found, chain_alive, chain_high, found_inside, has_last}
use Rattle.hierarchy.proofs.Numbering.{born_exactly, parents_first}
use Rattle.hierarchy.proofs.Owning.{alive}

-- ---- falling lists

abbrev Falls : List ℕ → Type 0
Falls [] = Unit {0}
Falls (x ∷ xs) = ((k : ℕ) → Among k xs → k < x) × Falls xs

-- the elements are the marked numbers below this one
record AreThose (marked : ℕ → Bool) (n : ℕ) (xs : List ℕ) : Type 0 where
  only : (k : ℕ) → Among k xs → (k < n) × (marked k ≡ true)
  every : (k : ℕ) → k < n → marked k ≡ true → Among k xs

less_or : (k n : ℕ) → k < suc n → k ≢ n → k < n
less_or k n low differ = omega arith

-- a falling list of the marked numbers below one is that which goes downwards over the marks
falls_down : (marked : ℕ → Bool) (n : ℕ) (xs : List ℕ) → Falls xs → AreThose marked n xs → xs ≡ marked_below marked n
falls_down marked zero [] f t = refl
falls_down marked zero (x ∷ xs) f t = let low : x < zero = (t.only x (inl refl)).0 in absurd (omega arith)
falls_down marked (suc n) xs f t = by (marked n) refl xs f t (falls_down marked n)
  where
    by : (b : Bool) → marked n ≡ b → (xs : List ℕ) → Falls xs → AreThose marked (suc n) xs → ((ys : List ℕ) → Falls ys → AreThose marked n ys → ys ≡ marked_below marked n)
        → xs ≡ cond b (n ∷ marked_below marked n) (marked_below marked n)
    by true is [] f t again = absurd (t.every n (omega arith) is)
    by true is (x ∷ xs) f t again =
        let low : x < suc n = (t.only x (inl refl)).0 in
        let first : x ≡ n = elim (t.every n (omega arith) is) [
          | inl same ↦ same
          | inr more ↦ let high : n < x = f.0 n more in absurd (omega arith)
        ] in
        let rest : AreThose marked n xs = record {
          only = λ k a. (let high : k < x = f.0 k a in (omega arith, (t.only k (inr a)).1));
          every = λ k less yes_k. elim (t.every k (omega arith) yes_k) [
            | inl same ↦ absurd (omega arith)
            | inr more ↦ more
          ];
        } in
        ap₂ (λ y l. y ∷ l) first (again xs f.1 rest)
    by false is xs f t again = again xs f (record {
      only = λ k a. (less_or k n (t.only k a).0 (λ same. true≢false (sym (t.only k a).1 ∙ ap marked same ∙ is)), (t.only k a).1);
      every = λ k less yes_k. t.every k (omega arith) yes_k;
    })

-- ---- who is marked

module _ (set : Setup) (c : List Entry) (child : ℕ) (marked : ℕ → Bool) (run : IsLegalRun set c) (here : lives c child ≡ true) (marks : AreMarked c child marked) where
  found : Found c child (length (numbers c)) (inside_of c child)
  found = found_inside c child set run

  born_low : (k : ℕ) → lives c k ≡ true → k < length (numbers c)
  born_low k h = (born_exactly set c k run).0 (alive c k h).0

  falls_in : (xs : List ℕ) → Chain c child xs → Falls xs
  falls_in [] h = absurd h
  falls_in (x ∷ []) h = (λ k a. absurd a, tt)
  falls_in (x ∷ (y ∷ xs)) h = (λ k a. chain_high c child x (y ∷ xs) h k a, falls_in (y ∷ xs) h.1)

  mark_from : (k : ℕ) → lives c k ≡ true → ((k == child) || is_parent_marked marked (birth_of c k)) ≡ true → marked k ≡ true
  mark_from k h p = marks k (born_low k h) ∙ ap₂ (λ a b. a && b) h p

  marked_in : (xs : List ℕ) → Chain c child xs → (k : ℕ) → Among k xs → marked k ≡ true
  marked_in [] h k a = absurd h
  marked_in (x ∷ []) h k a = elim a [
    | inl same ↦
        let one : k ≡ child = sym same ∙ h in
        mark_from k (ap (lives c) one ∙ here) (or_left (k == child) (is_parent_marked marked (birth_of c k)) (eq-eqb k child one))
    | inr none ↦ absurd none
  ]
  marked_in (x ∷ (y ∷ xs)) h k a = elim a [
    | inl same ↦ ap marked (sym same) ∙ mark_from x h.0.alive (or_right (x == child) (is_parent_marked marked (birth_of c x))
        (ap (is_parent_marked marked) h.0.is ∙ marked_in (y ∷ xs) h.1 h.0.b.parent h.0.parent))
    | inr more ↦ marked_in (y ∷ xs) h.1 k more
  ]

  -- what its mark says of one
  record Why (k : ℕ) : Type 0 where
    lives_so : lives c k ≡ true
    how : (k ≡ child) ⊎ ((b : Birth) × (birth_of c k ≡ Some b) × (marked b.parent ≡ true))

  why : (k : ℕ) → k < length (numbers c) → marked k ≡ true → Why k
  why k low h =
      let p = and_parts (lives c k) ((k == child) || is_parent_marked marked (birth_of c k)) (sym (marks k low) ∙ h) in
      record {
        lives_so = p.0;
        how = elim (or_cases (k == child) (is_parent_marked marked (birth_of c k)) p.1) [
          | inl one ↦ inl (eqb-true k child one)
          | inr up ↦ inr (of (birth_of c k) refl up)
        ];
      }
    where
      of : (o : Option Birth) → birth_of c k ≡ o → is_parent_marked marked o ≡ true → (b : Birth) × (birth_of c k ≡ Some b) × (marked b.parent ≡ true)
      of None is up = absurd (true≢false (sym up))
      of (Some b) is up = (b, is, up)

  every_in : (n k : ℕ) → k < n → k < length (numbers c) → marked k ≡ true → Among k (inside_of c child)
  every_in zero k less low h = absurd (omega arith)
  every_in (suc n) k less low h =
      let w = why k low h in
      elim w.how [
        | inl one ↦ subst (λ m. Among m (inside_of c child)) (sym one) (has_last set c run child here (inside_of c child) found.chain)
        | inr up ↦
            let first : up.0.parent < k = parents_first set c run k up.0 up.1 in
            found.complete k up.0 low w.lives_so up.1 (every_in n up.0.parent (omega arith) (omega arith) up.2)
      ]

  pub marks_find : inside_of c child ≡ marked_below marked (length (numbers c))
  marks_find = falls_down marked (length (numbers c)) (inside_of c child) (falls_in (inside_of c child) found.chain) (record {
    only = λ k a. (born_low k (chain_alive c child (inside_of c child) found.chain here k a), marked_in (inside_of c child) found.chain k a);
    every = λ k low h. every_in (suc k) k (omega arith) low h;
  })
