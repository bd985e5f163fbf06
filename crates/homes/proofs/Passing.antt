-- The instances behind a tick, one after the other.
use Rattle.std.proofs.Common.{◌≡◌, ◌∙◌, ℕ, ◌+◌, ◌<◌, ◌≤◌, List, inl, inr, length, sym, ap, subst, arith}
use Rattle.std.specs.Prelude.{Some, slice_get, slice_set}
use Rattle.std.proofs.lemmas.Bool.{cases_lt}
use Rattle.std.proofs.lemmas.List.{length-set}
use Rattle.homes.specs.Tells.{HasPassedTo}
use Rattle.homes.specs.declared.homes.Home.{Home}
use Rattle.homes.proofs.Standing.{same_item, set_here, set_other}

-- the first ones have gone on, and the others are as they were
module _ (second : ℕ) (old now : List Home) (n : ℕ) (x new : Home) (here : slice_get now n ≡ Some x) (was : slice_get old n ≡ Some x) (after : List Home) (is : after ≡ slice_set now n new) where
  pub all_more : length now ≡ length old → length after ≡ length old
  all_more all = ap length is ∙ length-set now n new ∙ all

  pub ahead_more : ((i : ℕ) → n ≤ i → slice_get now i ≡ slice_get old i) → (i : ℕ) → n + 1 ≤ i → slice_get after i ≡ slice_get old i
  ahead_more ahead i high = ap (λ xs. slice_get xs i) is ∙ set_other now n i new (λ e. absurd (omega (arith, high, e))) ∙ ahead i (omega (arith, high))

  pub passed_more : ((i : ℕ) (h one : Home) → i < n → slice_get old i ≡ Some h → slice_get now i ≡ Some one → HasPassedTo second h one) → HasPassedTo second x new
      → (i : ℕ) (h one : Home) → i < n + 1 → slice_get old i ≡ Some h → slice_get after i ≡ Some one → HasPassedTo second h one
  passed_more below passed i h one low e f = elim (cases_lt i n) [
    | inl before ↦ below i h one before e (sym (set_other now n i new (λ same. absurd (omega (arith, before, same)))) ∙ ap (λ xs. slice_get xs i) (sym is) ∙ f)
    | inr high ↦
        let at : n ≡ i = omega (arith, low, high) in
        let first : x ≡ h = same_item x h (sym was ∙ ap (slice_get old) at ∙ e) in
        let last : new ≡ one = same_item new one (sym (set_here now n x new here) ∙ ap (slice_get (slice_set now n new)) at ∙ ap (λ xs. slice_get xs i) (sym is) ∙ f) in
        subst (λ y. HasPassedTo second y one) first (subst (HasPassedTo second x) last passed)
  ]
