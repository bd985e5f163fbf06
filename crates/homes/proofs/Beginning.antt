-- The places before anything has happened.
use Rattle.std.proofs.Common.{◌≡◌, ◌≢◌, ◌∙◌, ℕ, zero, suc, ◌<◌, ◌≤◌, ◌⊎◌, inl, inr, List, [], ◌∷◌, ◌++◌, Bool, true, false, cond, Option, Some, None, length, refl, sym, ap, true≢false, arith}
use Rattle.std.specs.Prelude.{nat_lt, option_and_then, slice_get, slice_index_or, if◌then◌else◌}
use Rattle.std.proofs.lemmas.Bool.{ltb-true}
use Rattle.instance.specs.workload.Actors.{are_together}
use Rattle.instance.specs.workload.declared.work.Actor.{Actor}
use Rattle.instance.specs.workload.declared.work.Line.{Line}
use Rattle.instance.specs.answers.Chronicle.{Setup, top}
use Rattle.homes.specs.Homes.{IsPlace, home_in}
use Rattle.homes.proofs.Lining.{passed_on}

-- an actor of the top stands there, and one of a child nowhere yet
pub of_top : (set : Setup) (k : ℕ) (a : Actor) → slice_get set.work.actors k ≡ Some a → a.of ≡ None → Some 0 ≡ home_in set [] k
of_top set k a here of = sym (ap (λ o. cond (are_together (option_and_then (λ (a : Actor). a.of) o) None) (Some 0) None) here ∙ ap (λ o. cond (are_together o None) (Some 0) None) of)

pub of_child : (set : Setup) (k : ℕ) (a : Actor) (label : List ℕ) → slice_get set.work.actors k ≡ Some a → a.of ≡ Some label → None ≡ home_in set [] k
of_child set k a label here of = sym (ap (λ o. cond (are_together (option_and_then (λ (a : Actor). a.of) o) None) (Some 0) None) here ∙ ap (λ o. cond (are_together o None) (Some 0) None) of)

-- so for the place that is given it
pub home_at : (set : Setup) (k : ℕ) (a : Actor) (home : Option ℕ) → slice_get set.work.actors k ≡ Some a
    → ((a.of ≡ None) × (home ≡ Some 0)) ⊎ ((label : List ℕ) × (a.of ≡ Some label) × (home ≡ None)) → home ≡ home_in set [] k
home_at set k a home here (inl top) = top.1 ∙ of_top set k a here top.0
home_at set k a home here (inr child) = child.2 ∙ of_child set k a child.0 here child.1

none_below : (j : ℕ) → nat_lt j 0 ≡ false
none_below j = by (nat_lt j 0) refl
  where
    by : (b : Bool) → nat_lt j 0 ≡ b → nat_lt j 0 ≡ false
    by true is = absurd (let less = ltb-true j 0 is in omega (arith, less))
    by false is = is

pub first_place : (set : Setup) (k at : ℕ) (home : Option ℕ) → home ≡ home_in set [] k → at ≤ length set.work.lines
    → ((j : ℕ) (d : Line) → 0 ≤ j → j < at → (slice_index_or set.work.lines j d).actor ≢ k)
    → ((d : Line) → at < length set.work.lines → (slice_index_or set.work.lines at d).actor ≡ k)
    → IsPlace set [] k (record { home = home; next = at; issued = 0; waits = false })
first_place set k at home is high none here = record {
  home = is;
  issued = refl;
  next = record { within = high; passed = passed_on k set.work.lines 0 at (omega arith) high none; here = here };
  begun = λ e. absurd (true≢false (sym e));
  replied = λ j. sym (ap (λ b. if b then 1 else 0) (none_below j));
}

-- what stands in a list with one item more
pub get_pushed : {X : Type 0} (xs : List X) (x y : X) (k : ℕ) → slice_get (xs ++ x ∷ []) k ≡ Some y → (slice_get xs k ≡ Some y) ⊎ ((k ≡ length xs) × (x ≡ y))
get_pushed [] x y zero e = inr (refl, let same : x ≡ y = cc in same)
get_pushed [] x y (suc k) e = cc
get_pushed (z ∷ xs) x y zero e = inl e
get_pushed (z ∷ xs) x y (suc k) e = elim (get_pushed xs x y k e) [ inl there ↦ inl there | inr last ↦ inr (ap suc last.0, last.1) ]
