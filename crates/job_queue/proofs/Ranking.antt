-- What pushes and pops leave of the ranks.
use Rattle.std.proofs.Common.{◌≡◌, ◌≢◌, ℕ, zero, suc, ◌<◌, ◌≤◌, ◌⊎◌, inl, inr, ⊎_elim, List, [], ◌∷◌, Option, None, Some, length, slice_get, slice_index_or, true, sym, refl, ap, ◌∙◌, subst, arith, rules}
use Rattle.std.specs.List.{Contains}
use Rattle.std.specs.List.Sorted.{IsPermutation}
use Rattle.std.specs.Ordering.{nat_cmp, eq_by_cmp, ordering_then}
use Rattle.std.specs.Option.{IfSome, IsSome}
use Rattle.std.specs.BinaryHeap.{IsUpperBound}
use Rattle.std.specs.BTreeMap.{BTreeMap, get}
use Rattle.std.specs.declared.cmp.Reverse.{Reverse}
use Rattle.std.proofs.lemmas.List.Sorted.{Contains-permutation, first_le_from_greatest}
use Rattle.std.proofs.lemmas.List.Elements.{All-contains}
use Rattle.std.proofs.lemmas.Map.Views.{Contains-from_lookup}
use Rattle.std.proofs.lemmas.Map.Lookups.{exact_unsigned}
use Rattle.std.proofs.lemmas.Bool.{cases_eq, false≢true}
use Rattle.job_queue.specs.Ranks.{rank_of, IsRanked, IsRankedBut, IsLive}

-- a member of a list is its first or among the others
first_or_rest_at : {X : Type 0} (x y : X) (ys : List X) (k : ℕ) → k < length (x ∷ ys) → slice_index_or (x ∷ ys) k y ≡ y → (x ≡ y) ⊎ Contains ys y
first_or_rest_at x y ys zero l e = inl e
first_or_rest_at x y ys (suc k) l e = inr (k, omega (arith, l), e)

pub first_or_rest : {X : Type 0} (x y : X) (ys : List X) → Contains (x ∷ ys) y → (x ≡ y) ⊎ Contains ys y
first_or_rest x y ys h = first_or_rest_at x y ys h.0 h.1 h.2

pub rest_in : {X : Type 0} (x y : X) (ys : List X) → Contains ys y → Contains (x ∷ ys) y
rest_in x y ys h = (suc h.0, omega (arith, h.1), h.2)

pub first_in : {X : Type 0} (x : X) (ys : List X) → Contains (x ∷ ys) x
first_in x ys = (0, omega arith, refl)

-- without an outdated rank
pub ranked_without : (m : BTreeMap ℕ ℕ) (old new : List (ℕ × Reverse ℕ)) (x : ℕ × Reverse ℕ) → IsPermutation old (x ∷ new) → IsRanked m old → (IsLive m x → ⊥) → IsRanked m new
ranked_without m old new x p ranked outdated id priority at =
    ⊎_elim (λ e. absurd (outdated (subst (IsLive m) (sym e) at))) (λ h. h) (first_or_rest x (rank_of id priority) new (Contains-permutation old (x ∷ new) (rank_of id priority) p (ranked id priority at)))

same_or_not : (m n : ℕ) → (m ≡ n) ⊎ (m ≢ n)
same_or_not m n = cases_eq m n

-- with the rank of a job whose priority is new
pub ranked_with : (m : BTreeMap ℕ ℕ) (old new : List (ℕ × Reverse ℕ)) (job p : ℕ) → IsPermutation (rank_of job p ∷ old) new → get nat_cmp m job ≡ Some p → IsRankedBut job m old → IsRanked m new
ranked_with m old new job p perm is ranked id priority at =
    ⊎_elim
    (λ e. let v : Some p ≡ Some priority = sym is ∙ ap (get nat_cmp m) (sym e) ∙ at in
    let r : rank_of job p ≡ rank_of id priority = cc in
    subst (Contains new) r (Contains-permutation (rank_of job p ∷ old) new (rank_of job p) perm (first_in (rank_of job p) old)))
    (λ n. Contains-permutation (rank_of job p ∷ old) new (rank_of id priority) perm (rest_in (rank_of job p) (rank_of id priority) old (ranked id priority n at)))
    (same_or_not id job)

equal_ids : (x y : ℕ) → eq_by_cmp nat_cmp x y ≡ true → x ≡ y
equal_ids x y e = exact_unsigned x y (search (rules, e))

-- each entry is ranked, or among those that are left
abbrev pub IsRankedOrLeft : List (ℕ × ℕ) → List (ℕ × ℕ) → List (ℕ × Reverse ℕ) → Type 0
IsRankedOrLeft entries left ranks = (e : ℕ × ℕ) → Contains entries e → Contains ranks (rank_of e.0 e.1) ⊎ Contains left e

pub one_less_left : (entries left rest : List (ℕ × ℕ)) (x : ℕ × ℕ) (old new : List (ℕ × Reverse ℕ)) → left ≡ x ∷ rest → IsPermutation (rank_of x.0 x.1 ∷ old) new → IsRankedOrLeft entries left old → IsRankedOrLeft entries rest new
one_less_left entries left rest x old new is perm h e among =
    let keep : Contains old (rank_of e.0 e.1) → Contains new (rank_of e.0 e.1) = λ c. Contains-permutation (rank_of x.0 x.1 ∷ old) new (rank_of e.0 e.1) perm (rest_in (rank_of x.0 x.1) (rank_of e.0 e.1) old c) in
    let pushed : x ≡ e → Contains new (rank_of e.0 e.1) = λ q. subst (λ y. Contains new (rank_of y.0 y.1)) q (Contains-permutation (rank_of x.0 x.1 ∷ old) new (rank_of x.0 x.1) perm (first_in (rank_of x.0 x.1) old)) in
    ⊎_elim (λ c. inl (keep c)) (λ l. ⊎_elim (λ q. inl (pushed q)) (λ r. inr r) (first_or_rest x e rest (subst (λ xs. Contains xs e) is l))) (h e among)

none_in : {X : Type 0} (x : X) → Contains [] x → ⊥
none_in x h = omega (arith, h.1)

-- what a look-up finds is an entry
pub entry_at : (m : BTreeMap ℕ ℕ) (id priority : ℕ) → get nat_cmp m id ≡ Some priority → Contains m.entries (id, priority)
entry_at m id priority at = Contains-from_lookup {eq = eq_by_cmp nat_cmp} equal_ids id priority m.entries at

pub none_left : (m : BTreeMap ℕ ℕ) (left : List (ℕ × ℕ)) (ranks : List (ℕ × Reverse ℕ)) → left ≡ [] → IsRankedOrLeft m.entries left ranks → IsRanked m ranks
none_left m left ranks is h id priority at =
    ⊎_elim (λ c. c) (λ l. absurd (none_in (id, priority) (subst (λ xs. Contains xs (id, priority)) is l))) (h (id, priority) (entry_at m id priority at))

-- the first rank is popped, and was outdated
popped_at : (m : BTreeMap ℕ ℕ) (old new : List (ℕ × Reverse ℕ)) (x top : ℕ × Reverse ℕ) → 0 < length old → x ≡ slice_index_or old 0 x → top ≡ slice_index_or old 0 top → IsPermutation old (x ∷ new) → IsRanked m old → (IsLive m top → ⊥) → IsRanked m new
popped_at m [] new x top some is first perm ranked outdated = absurd (omega (arith, some))
popped_at m (y ∷ ys) new x top some is first perm ranked outdated =
    let same : top ≡ x = first ∙ sym is in
    ranked_without m (y ∷ ys) new x perm ranked (λ live. outdated (subst (IsLive m) (sym same) live))

pub popped : (m : BTreeMap ℕ ℕ) (old new : List (ℕ × Reverse ℕ)) (r : Option (ℕ × Reverse ℕ)) (top : ℕ × Reverse ℕ) → IsSome r → 0 < length old → IfSome r (λ x. x ≡ slice_index_or old 0 x) → top ≡ slice_index_or old 0 top → IfSome r (λ x. IsPermutation old (x ∷ new)) → IsRanked m old → (IsLive m top → ⊥) → IsRanked m new
popped m old new None top is some x first perm ranked outdated = absurd (false≢true is)
popped m old new (Some r) top is some x first perm ranked outdated = popped_at m old new r top some x first perm ranked outdated

-- no job's priority is above that of the first rank
pub under_top : (top : ℕ × Reverse ℕ) (ranks : List (ℕ × Reverse ℕ)) (id priority : ℕ) → IsUpperBound (λ a b. ordering_then (nat_cmp a.0 b.0) (nat_cmp b.1.0 a.1.0)) top ranks → Contains ranks (rank_of id priority) → priority ≤ top.0
under_top top ranks id priority upper c = All-contains (λ y. y.0 ≤ top.0) ranks (rank_of id priority) (first_le_from_greatest (λ a b. nat_cmp b.0 a.0) top ranks upper) c

pub at_top : (ranks : List (ℕ × Reverse ℕ)) (top : ℕ × Reverse ℕ) → 0 < length ranks → top ≡ slice_index_or ranks 0 top → slice_get ranks 0 ≡ Some top
at_top [] top some is = absurd (omega (arith, some))
at_top (x ∷ xs) top some is = ap Some (sym is)
