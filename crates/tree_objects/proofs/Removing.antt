-- An object that is taken out from under its name.
use Rattle.std.proofs.Common.{◌≡◌, ℕ, zero, suc, ◌<◌, true, false, cond, List, [], ◌∷◌, length, get_or, map, refl, sym, ap, ◌∙◌, subst, arith, Less, Equal, Greater}
use Rattle.std.specs.Prelude.{IsTrue, not}
use Rattle.std.specs.List.{AllByRecursion, remove}
use Rattle.std.specs.List.Sorted.{IsNonDecreasingBy, IsPartitionPoint}
use Rattle.std.specs.Ordering.{is_lt, is_eq, eq_by_cmp, ordering_index}
use Rattle.std.specs.FinMap.Entries as finite
use Rattle.std.specs.Str.{IsUtf8}
use Rattle.std.proofs.lemmas.List.Edits.{length-remove}
use Rattle.kvs_model.specs.Store.{Name}
use Rattle.tree_rules.specs.Objects.{Tree, Entries, listed}
use Rattle.tree_rules.specs.Names.{name_cmp}
use Rattle.tree_objects.specs.Directories.{IsDirectory}
use Rattle.tree_objects.specs.Level.{tree_of, paired}
use Rattle.tree_objects.specs.declared.object.Object.{Object}
use Rattle.tree_objects.proofs.Pairs.{and_parts, less_is}
use Rattle.tree_objects.proofs.Putting.{from_T, to_T}
use Rattle.tree_objects.proofs.Search.{Rises, below_get, turned, same_name, self_name, apart, non_decreasing, not_there}

abbrev Row : Type 0
Row = Name × Tree

-- the rows of other names
abbrev pub others : Name → List Row → List Row
others n es = finite.where_key name_cmp (λ other. not (eq_by_cmp name_cmp n other)) es

kept_all : (n : Name) (es : List Row) → IsTrue (finite.below_all name_cmp n es) → others n es ≡ es
kept_all n [] h = refl
kept_all n (e ∷ es) h =
    let parts = and_parts (is_lt (name_cmp n e.0)) (finite.below_all name_cmp n es) h in
    ap (λ r. cond (not (is_eq r)) (e ∷ others n es) (others n es)) (less_is (name_cmp n e.0) parts.0) ∙ ap (λ (xs : List Row). e ∷ xs) (kept_all n es parts.1)

removed_here : (names : List Name) (objects : List Object) → length names ≡ length objects → Rises names objects → (place : ℕ) (n : Name) → place < length names → n ≡ get_or names place n
    → listed (paired (remove names place) (remove objects place)) ≡ others n (listed (paired names objects))
removed_here [] objects e h place n w is = absurd (omega arith)
removed_here (k ∷ ks) [] e h place n w is = absurd (omega arith)
removed_here (k ∷ ks) (p ∷ ps) e h zero n w is =
    let es = listed (paired ks ps) in
    let parts = and_parts (finite.below_all name_cmp k es) (finite.is_sorted name_cmp es) h in
    let tied : name_cmp n k ≡ Equal = ap (name_cmp n) (sym is) ∙ self_name n in
    let below : IsTrue (finite.below_all name_cmp n es) = subst (λ (x : Name). IsTrue (finite.below_all name_cmp x es)) (sym is) parts.0 in
    sym (ap (λ r. cond (not (is_eq r)) ((k, tree_of p) ∷ others n es) (others n es)) tied ∙ kept_all n es below)
removed_here (k ∷ ks) (p ∷ ps) e h (suc place) n w is =
    let es = listed (paired ks ps) in
    let parts = and_parts (finite.below_all name_cmp k es) (finite.is_sorted name_cmp es) h in
    let above : name_cmp n k ≡ Greater = turned k n (ap (name_cmp k) is ∙ below_get k ks ps (omega arith) parts.0 place n (omega arith)) in
    ap (λ (xs : List Row). (k, tree_of p) ∷ xs) (removed_here ks ps (omega arith) parts.1 place n (omega arith) is)
    ∙ sym (ap (λ r. cond (not (is_eq r)) ((k, tree_of p) ∷ others n es) (others n es)) above)

kept_none : (names : List Name) (objects : List Object) → length names ≡ length objects → (n : Name) → ((i : ℕ) → i < length names → name_cmp (get_or names i []) n ≡ Equal → ⊥)
    → listed (paired names objects) ≡ others n (listed (paired names objects))
kept_none [] objects e n h = refl
kept_none (k ∷ ks) [] e n h = absurd (omega arith)
kept_none (k ∷ ks) (p ∷ ps) e n h =
    let es = listed (paired ks ps) in
    ap (λ (xs : List Row). (k, tree_of p) ∷ xs) (kept_none ks ps (omega arith) n (λ i w. h (suc i) (omega arith)))
    ∙ sym (ap (λ b. cond (not b) ((k, tree_of p) ∷ others n es) (others n es)) (apart n k (h 0 (omega arith))))

abbrev AreTexts : List Row → Type 0
AreTexts xs = AllByRecursion IsUtf8 (map (λ e. e.0) xs)

other_texts : (n : Name) (xs : List Row) → AreTexts xs → AreTexts (others n xs)
other_texts n [] all = tt
other_texts n (e ∷ es) all =
    let rest = other_texts n es all.1 in
    elim (not (eq_by_cmp name_cmp n e.0)) as (λ b. AreTexts (cond b (e ∷ others n es) (others n es))) [ true ↦ (all.0, rest) | false ↦ rest ]

pub others_directory : (es new : Entries) (n : Name) → listed new ≡ others n (listed es) → IsDirectory es → IsDirectory new
others_directory es new n is h = record {
  sorted = subst (λ (xs : List Row). IsTrue (finite.is_sorted name_cmp xs)) (sym is)
      (from_T (finite.is_sorted name_cmp (others n (listed es))) (finite.is_sorted-where_key name_cmp (λ other. not (eq_by_cmp name_cmp n other)) (listed es) (to_T (finite.is_sorted name_cmp (listed es)) h.sorted)));
  texts = subst AreTexts (sym is) (other_texts n (listed es) h.texts);
}

pub same_left : {A B : Type 0} (xs : List A) (ys : List B) (place : ℕ) → length xs ≡ length ys → place < length xs → length (remove xs place) ≡ length (remove ys place)
same_left xs ys place e w = omega (arith, length-remove xs place w, length-remove ys place (omega arith))

-- ---- at the place that a binary search tells

pub removed_found : (names : List Name) (objects : List Object) → length names ≡ length objects → Rises names objects → (xs : List Name) → xs ≡ names → (place : ℕ) (n : Name) → place < length xs
    → ((d : Name) → name_cmp (get_or xs place d) n ≡ Equal) → listed (paired (remove names place) (remove objects place)) ≡ others n (listed (paired names objects))
removed_found names objects e h xs same place n w ok =
    let there : name_cmp (get_or names place n) n ≡ Equal = subst (λ (ys : List Name). name_cmp (get_or ys place n) n ≡ Equal) same (ok n) in
    removed_here names objects e h place n (omega (arith, ap length same)) (sym (same_name (get_or names place n) n there))

pub kept_missed : (names : List Name) (objects : List Object) → length names ≡ length objects → Rises names objects → (xs : List Name) → xs ≡ names → (place : ℕ) (n : Name)
    → (IsNonDecreasingBy (λ y. ordering_index (name_cmp y n)) xs → IsPartitionPoint (λ y. name_cmp y n ≡ Less) (λ y. name_cmp y n ≡ Greater) xs place)
    → listed (paired names objects) ≡ others n (listed (paired names objects))
kept_missed names objects e h xs same place n position =
    let parts : IsPartitionPoint (λ y. name_cmp y n ≡ Less) (λ y. name_cmp y n ≡ Greater) names place =
    subst (λ (ys : List Name). IsPartitionPoint (λ y. name_cmp y n ≡ Less) (λ y. name_cmp y n ≡ Greater) ys place) same
    (position (subst (λ (ys : List Name). IsNonDecreasingBy (λ y. ordering_index (name_cmp y n)) ys) (sym same) (non_decreasing names objects e h n))) in
    kept_none names objects e n (not_there names n place parts)
