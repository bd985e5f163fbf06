-- A walk opens the directories that it passes.
use Rattle.std.proofs.Common.{◌≡◌, ℕ, zero, suc, ◌<◌, ◌≤◌, false, List, [], ◌∷◌, ◌++◌, length, take, drop, Option, Some, None, option_map, refl, sym, ap, ◌∙◌, subst, inl, inr, true≢false, arith, append_assoc}
use Rattle.std.specs.Prelude.{IsSome, ◌⊎◌}
use Rattle.kvs_model.specs.Operation.{is_directory}
use Rattle.kvs_txn.specs.declared.words.Target.{Target}
use Rattle.kvs_model.specs.Store.{Path, Node, Value, Directory, Link, Store, IsStore, node_at}
use Rattle.kvs_model.specs.Walk.{stop, past_inner_link, behind_inner_link}
use Rattle.std.proofs.lemmas.List.{drop_all}
use Rattle.tree_store.specs.Shown.{Directories, opened_at, OpensAbove, link_target}
use Rattle.tree_store.proofs.Opening.{is_some}

pub take_less : {A : Type 0} (k n : ℕ) (xs : List A) → k ≤ n → take k (take n xs) ≡ take k xs
take_less zero n xs w = refl
take_less (suc k) zero xs w = absurd (omega arith)
take_less (suc k) (suc n) [] w = refl
take_less {A = A} (suc k) (suc n) (x ∷ xs) w = ap (λ (l : List A). x ∷ l) (take_less k n xs (omega arith))

length_take : {A : Type 0} (n : ℕ) (xs : List A) → length (take n xs) ≤ n
length_take zero xs = omega arith
length_take (suc n) [] = omega arith
length_take (suc n) (x ∷ xs) = omega (arith, length_take n xs)

-- the directories above the place that a walk has come to are open
pub opens_upto : (ds : Directories) (st : Store) (path : Path) (n : ℕ) → ((k : ℕ) → k < n → IsSome (opened_at ds (take k path))) → OpensAbove ds st (take n path)
opens_upto ds st path n opens k w is =
    let less : k < n = omega (arith, w, length_take n path) in
    subst (λ (q : Path). IsSome (opened_at ds q)) (sym (take_less k n path (omega arith))) (opens k less)

-- ---- the path behind a link

-- a link's target with the components behind it
abbrev pub with_rest : Path → Target → Target
with_rest rest t = record { path = t.path ++ rest; namespace = t.namespace }

behind_is : (o : Option Node) (rest : Path) → 0 < length rest → behind_inner_link o rest ≡ option_map (with_rest rest) (link_target o)
behind_is o [] w = absurd (omega arith)
behind_is None (x ∷ rest) w = refl
behind_is (Some (Value bytes)) (x ∷ rest) w = refl
behind_is (Some Directory) (x ∷ rest) w = refl
behind_is (Some (Link target)) (x ∷ rest) w = refl

pub next_at : (st : Store) (path : Path) (n : ℕ) → stop st path ≡ record { place = take n path; rest = drop n path } → 0 < length (drop n path)
    → past_inner_link st path ≡ option_map (with_rest (drop n path)) (link_target (node_at st (take n path)))
next_at st path n is w = ap (λ at. behind_inner_link (node_at st at.place) at.rest) is ∙ behind_is (node_at st (take n path)) (drop n path) w

pub next_none : (st : Store) (path : Path) (n : ℕ) → stop st path ≡ record { place = take n path; rest = drop n path } → length path ≤ n → past_inner_link st path ≡ None
next_none st path n is w = ap (λ at. behind_inner_link (node_at st at.place) at.rest) is ∙ ap (behind_inner_link (node_at st (take n path))) (drop_all n path w)

-- ---- below a place where no directory stands none stands

dir_above : (st : Store) → IsStore st → (q r : Path) → 0 < length r → IsSome (node_at st (q ++ r)) → node_at st q ≡ Some Directory
dir_above st is q [] w some = absurd (omega arith)
dir_above st is q (n ∷ []) w some = is.parents q n some
dir_above st is q (n ∷ m ∷ r) w some =
    is.parents q n (is_some (node_at st (q ++ n ∷ [])) Directory (dir_above st is (q ++ n ∷ []) (m ∷ r) (omega arith) (subst (λ (p : Path). IsSome (node_at st p)) (sym (append_assoc q (n ∷ []) (m ∷ r))) some)))

take_parts : (n k : ℕ) (path : Path) → n ≤ k → take k path ≡ take n path ++ drop n (take k path)
take_parts zero k path w = refl
take_parts (suc n) zero path w = absurd (omega arith)
take_parts (suc n) (suc k) [] w = refl
take_parts (suc n) (suc k) (x ∷ path) w = ap (λ (p : Path). x ∷ p) (take_parts n k path (omega arith))

rest_some : (n k : ℕ) (path : Path) → n < k → k ≤ length path → 0 < length (drop n (take k path))
rest_some n zero path w v = absurd (omega arith)
rest_some n (suc k) [] w v = absurd (omega arith)
rest_some zero (suc k) (x ∷ path) w v = omega arith
rest_some (suc n) (suc k) (x ∷ path) w v = rest_some n k path (omega arith) (omega arith)

pub opens_path : (ds : Directories) (st : Store) (path : Path) (n : ℕ) → IsStore st → ((k : ℕ) → k < n → IsSome (opened_at ds (take k path))) → (n < length path → is_directory (node_at st (take n path)) ≡ false) → OpensAbove ds st path
opens_path ds st path n is opens ends k w there =
    elim (less_or k n) [
      | inl less ↦ opens k less
      | inr more ↦ absurd (no_directory st path n k is (ends (omega arith)) more w there)
    ]
  where
    less_or : (k n : ℕ) → (k < n) ⊎ (n ≤ k)
    less_or k zero = inr (omega arith)
    less_or zero (suc n) = inl (omega arith)
    less_or (suc k) (suc n) = elim (less_or k n) [ inl a ↦ inl (omega arith) | inr b ↦ inr (omega arith) ]

    unlike : (o : Option Node) → is_directory o ≡ false → o ≡ Some Directory → ⊥
    unlike o e d = true≢false (sym (ap is_directory d) ∙ e)

    same_or : (n k : ℕ) → n ≤ k → (n ≡ k) ⊎ (n < k)
    same_or zero zero w = inl refl
    same_or zero (suc k) w = inr (omega arith)
    same_or (suc n) zero w = absurd (omega arith)
    same_or (suc n) (suc k) w = elim (same_or n k (omega arith)) [ inl a ↦ inl (ap suc a) | inr b ↦ inr (omega arith) ]

    no_directory : (st : Store) (path : Path) (n k : ℕ) → IsStore st → is_directory (node_at st (take n path)) ≡ false → n ≤ k → k < length path → node_at st (take k path) ≡ Some Directory → ⊥
    no_directory st path n k is none w v there =
        elim (same_or n k w) [
          | inl same ↦ unlike (node_at st (take n path)) none (ap (λ i. node_at st (take i path)) same ∙ there)
          | inr less ↦ unlike (node_at st (take n path)) none (dir_above st is (take n path) (drop n (take k path)) (rest_some n k path less (omega arith))
              (is_some (node_at st (take n path ++ drop n (take k path))) Directory (ap (node_at st) (sym (take_parts n k path (omega arith))) ∙ there)))
        ]
