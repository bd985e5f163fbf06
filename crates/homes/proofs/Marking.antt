-- Marks by number: of the instances that go, and those that are left.
use Rattle.std.proofs.Common.{◌≡◌, ◌∙◌, ℕ, zero, suc, ◌+◌, ◌<◌, ◌==◌, inl, inr, List, [], ◌∷◌, ◌++◌, Bool, true, false, ◌&&◌, ◌||◌, Option, Some, None, cond, length, refl, sym, ap, ap₂, append_assoc, arith}
use Rattle.std.specs.Prelude.{filter_map, not, slice_get, slice_index_or}
use Rattle.std.specs.List.{cons_option, list_any}
use Rattle.std.proofs.lemmas.Bool.{cases_eq, cases_lt, eq-eqb, ne_eqb}
use Rattle.std.proofs.lemmas.List.{get_or_append_left, get_or_push, length_push}
use Rattle.hierarchy.specs.Inside.{marked_below}
use Rattle.homes.specs.Inside.{AreRising, has_marked}
use Rattle.homes.specs.declared.homes.Home.{Home}
use Rattle.homes.specs.declared.homes.Origin.{Origin}

-- ---- the marked numbers

pub marked_alike : {A : Type 0} (f g : ℕ → Option A) (marked : ℕ → Bool) (n : ℕ) → ((k : ℕ) → k < n → marked k ≡ true → f k ≡ g k)
    → filter_map f (marked_below marked n) ≡ filter_map g (marked_below marked n)
marked_alike f g marked zero same = refl
marked_alike f g marked (suc n) same = by (marked n) refl (marked_alike f g marked n (λ k low is. same k (omega arith) is))
  where
    by : (b : Bool) → marked n ≡ b → filter_map f (marked_below marked n) ≡ filter_map g (marked_below marked n)
        → filter_map f (cond b (n ∷ marked_below marked n) (marked_below marked n)) ≡ filter_map g (cond b (n ∷ marked_below marked n) (marked_below marked n))
    by true is again = ap₂ cons_option (same n (omega arith) is) again
    by false is again = again

none_above : (marked : ℕ → Bool) (n k : ℕ) → n < k + 1 → list_any (λ i. i == k) (marked_below marked n) ≡ false
none_above marked zero k low = refl
none_above marked (suc n) k low = by (marked n) (none_above marked n k (omega arith))
  where
    by : (b : Bool) → list_any (λ i. i == k) (marked_below marked n) ≡ false → list_any (λ i. i == k) (cond b (n ∷ marked_below marked n) (marked_below marked n)) ≡ false
    by true again = ap₂ (λ a b. a || b) (ne_eqb n k (λ same. omega arith)) again
    by false again = again

-- a number is among them where it is marked
pub marked_among : (marked : ℕ → Bool) (n k : ℕ) → k < n → list_any (λ i. i == k) (marked_below marked n) ≡ marked k
marked_among marked zero k low = absurd (omega arith)
marked_among marked (suc n) k low = elim (cases_eq n k) [
  | inl same ↦ here same (marked n) refl
  | inr other ↦ there (marked n) (marked_among marked n k (omega arith)) (ne_eqb n k other)
]
  where
    here : n ≡ k → (b : Bool) → marked n ≡ b → list_any (λ i. i == k) (cond b (n ∷ marked_below marked n) (marked_below marked n)) ≡ marked k
    here same true is = ap (λ a. a || list_any (λ i. i == k) (marked_below marked n)) (eq-eqb n k same) ∙ sym is ∙ ap marked same
    here same false is = none_above marked n k (omega arith) ∙ sym is ∙ ap marked same

    there : (b : Bool) → list_any (λ i. i == k) (marked_below marked n) ≡ marked k → (n == k) ≡ false
        → list_any (λ i. i == k) (cond b (n ∷ marked_below marked n) (marked_below marked n)) ≡ marked k
    there true again other = ap (λ a. a || list_any (λ i. i == k) (marked_below marked n)) other ∙ again
    there false again other = again

-- what the marked numbers tell, from the greatest down to one more
pub told_more : {A : Type 0} (f : ℕ → Option A) (marked : ℕ → Bool) (xs : List A) (x : A) (n : ℕ) → marked n ≡ true → f n ≡ Some x
    → (xs ++ x ∷ []) ++ filter_map f (marked_below marked n) ≡ xs ++ filter_map f (marked_below marked (suc n))
told_more f marked xs x n is told =
    append_assoc xs (x ∷ []) (filter_map f (marked_below marked n))
    ∙ ap (λ l. xs ++ l) (ap (λ o. cons_option o (filter_map f (marked_below marked n))) (sym told)
    ∙ ap (λ b. filter_map f (cond b (n ∷ marked_below marked n) (marked_below marked n))) (sym is))

-- ---- the marks of homes

abbrev pub mark_at : List Bool → ℕ → Bool
mark_at marks i = slice_index_or marks i false

-- the homes before a place are marked
pub record AreMarkedBefore (number : ℕ) (homes : List Home) (marks : List Bool) (n : ℕ) : Type 0 where
  pub long : length marks ≡ n
  pub each : (i : ℕ) (h : Home) → i < n → slice_get homes i ≡ Some h
      → mark_at marks i ≡ (not h.gone && ((i == number) || has_marked marks h.origin))

-- a mark more leaves those of parents that stand before
parent_kept : (marks : List Bool) (b : Bool) (o : Option Origin) → ((p : Origin) → o ≡ Some p → p.parent < length marks)
    → has_marked (marks ++ b ∷ []) o ≡ has_marked marks o
parent_kept marks b None low = refl
parent_kept marks b (Some p) low = get_or_append_left marks (b ∷ []) false p.parent (low p refl)

pub marks_more : (number : ℕ) (homes : List Home) → AreRising homes → (marks : List Bool) (at : ℕ) (h : Home) (b : Bool) → slice_get homes at ≡ Some h
    → AreMarkedBefore number homes marks at → b ≡ (not h.gone && ((at == number) || has_marked marks h.origin)) → AreMarkedBefore number homes (marks ++ b ∷ []) (at + 1)
marks_more number homes rising marks at h b here old is = record {
  long = length_push marks b ∙ ap (λ n. n + 1) old.long;
  each = λ i one low e.
      let below : (p : Origin) → one.origin ≡ Some p → p.parent < length marks = (λ p from. let less = rising i one p e from in let many = old.long in omega arith) in
      let kept = parent_kept marks b one.origin below in
      elim (cases_lt i at) [
        | inl before ↦
            get_or_append_left marks (b ∷ []) false i (let many = old.long in omega arith) ∙ old.each i one before e
            ∙ ap (λ m. not one.gone && ((i == number) || m)) (sym kept)
        | inr last ↦
            let same : i ≡ at = omega arith in
            let is_one : h ≡ one = (let there : slice_get homes at ≡ Some one = ap (slice_get homes) (sym same) ∙ e in cc) in
            get_or_push marks b false i (old.long ∙ sym same) ∙ is
            ∙ ap₂ (λ k (x : Home). not x.gone && ((k == number) || has_marked marks x.origin)) (sym same) is_one
            ∙ ap (λ m. not one.gone && ((i == number) || m)) (sym kept)
      ];
}
