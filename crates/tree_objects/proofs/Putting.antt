-- An object put under a name.
use Rattle.std.proofs.Common.{◌≡◌, ℕ, zero, suc, ◌≤◌, ◌<◌, Bool, true, false, T, List, [], ◌∷◌, length, get_or, map, refl, sym, ap, ◌∙◌, subst, arith, Less, Equal, Greater}
use Rattle.std.specs.Prelude.{IsTrue, Result, Ok, Err}
use Rattle.std.specs.Result.{is_ok, is_err}
use Rattle.std.specs.List.{AllByRecursion, insert}
use Rattle.std.specs.List.Sorted.{IsNonDecreasingBy, IsPartitionPoint}
use Rattle.std.specs.Ordering.{ordering_reverse, ordering_index}
use Rattle.std.specs.FinMap.Entries as finite
use Rattle.std.specs.Str.{IsUtf8}
use Rattle.std.proofs.Math.ListN.{set}
use Rattle.std.proofs.lemmas.Cmp.{nat_list_cmp_total}
use Rattle.kvs_model.specs.Store.{Name}
use Rattle.tree_rules.specs.Objects.{Tree, Entries, listed}
use Rattle.tree_objects.specs.Directories.{IsDirectory}
use Rattle.tree_rules.specs.Names.{name_cmp}
use Rattle.tree_objects.specs.Level.{tree_of, paired}
use Rattle.tree_objects.specs.declared.object.Object.{Object}
use Rattle.tree_objects.proofs.Pairs.{and_parts}
use Rattle.tree_objects.proofs.Search.{Rises, below_get, turned, same_name, self_name, non_decreasing}

abbrev Row : Type 0
Row = Name × Tree

pub put_here : (names : List Name) (objects : List Object) → length names ≡ length objects → Rises names objects → (place : ℕ) (n : Name) (o : Object) → place < length names → n ≡ get_or names place n
    → listed (paired names (set objects place o)) ≡ finite.put name_cmp n (tree_of o) (listed (paired names objects))
put_here [] objects e h place n o w is = absurd (omega arith)
put_here (k ∷ ks) [] e h place n o w is = absurd (omega arith)
put_here (k ∷ ks) (p ∷ ps) e h zero n o w is =
    let es = listed (paired ks ps) in
    let tied : name_cmp n k ≡ Equal = ap (name_cmp n) (sym is) ∙ self_name n in
    sym (ap (λ r. finite.by_order r ((n, tree_of o) ∷ (k, tree_of p) ∷ es) ((k, tree_of o) ∷ es) ((k, tree_of p) ∷ finite.put name_cmp n (tree_of o) es)) tied)
put_here (k ∷ ks) (p ∷ ps) e h (suc place) n o w is =
    let es = listed (paired ks ps) in
    let parts = and_parts (finite.below_all name_cmp k es) (finite.is_sorted name_cmp es) h in
    let above : name_cmp n k ≡ Greater = turned k n (ap (name_cmp k) is ∙ below_get k ks ps (omega arith) parts.0 place n (omega arith)) in
    ap (λ (xs : List Row). (k, tree_of p) ∷ xs) (put_here ks ps (omega arith) parts.1 place n o (omega arith) is)
    ∙ sym (ap (λ r. finite.by_order r ((n, tree_of o) ∷ (k, tree_of p) ∷ es) ((k, tree_of o) ∷ es) ((k, tree_of p) ∷ finite.put name_cmp n (tree_of o) es)) above)

unturned : (a b : Name) → name_cmp a b ≡ Greater → name_cmp b a ≡ Less
unturned a b h = nat_list_cmp_total.antisymm b a ∙ ap ordering_reverse h

pub put_new : (names : List Name) (objects : List Object) → length names ≡ length objects → (place : ℕ) (n : Name) (o : Object) → place ≤ length names
    → ((k : ℕ) → k < place → name_cmp (get_or names k []) n ≡ Less) → ((k : ℕ) → place ≤ k → k < length names → name_cmp (get_or names k []) n ≡ Greater)
    → listed (paired (insert names place n) (insert objects place o)) ≡ finite.put name_cmp n (tree_of o) (listed (paired names objects))
put_new [] [] e zero n o w below above = refl
put_new [] [] e (suc place) n o w below above = absurd (omega arith)
put_new [] (p ∷ ps) e place n o w below above = absurd (omega arith)
put_new (k ∷ ks) [] e place n o w below above = absurd (omega arith)
put_new (k ∷ ks) (p ∷ ps) e zero n o w below above =
    let es = listed (paired ks ps) in
    sym (ap (λ r. finite.by_order r ((n, tree_of o) ∷ (k, tree_of p) ∷ es) ((k, tree_of o) ∷ es) ((k, tree_of p) ∷ finite.put name_cmp n (tree_of o) es)) (unturned k n (above 0 (omega arith) (omega arith))))
put_new (k ∷ ks) (p ∷ ps) e (suc place) n o w below above =
    let es = listed (paired ks ps) in
    ap (λ (xs : List Row). (k, tree_of p) ∷ xs) (put_new ks ps (omega arith) place n o (omega arith) (λ i l. below (suc i) (omega arith)) (λ i l m. above (suc i) (omega arith) (omega arith)))
    ∙ sym (ap (λ r. finite.by_order r ((n, tree_of o) ∷ (k, tree_of p) ∷ es) ((k, tree_of o) ∷ es) ((k, tree_of p) ∷ finite.put name_cmp n (tree_of o) es)) (turned k n (below 0 (omega arith))))

-- ---- the names rise, and are texts

pub from_T : (b : Bool) → T b → IsTrue b
from_T true h = refl
from_T false h = absurd h

pub to_T : (b : Bool) → IsTrue b → T b
to_T true h = tt
to_T false h = absurd (cc)

abbrev AreTexts : List Row → Type 0
AreTexts xs = AllByRecursion IsUtf8 (map (λ e. e.0) xs)

put_texts : (xs : List Row) (n : Name) (t : Tree) → AreTexts xs → IsUtf8 n → AreTexts (finite.put name_cmp n t xs)
put_texts [] n t all one = (one, tt)
put_texts (e ∷ es) n t all one =
    let rest = put_texts es n t all.1 one in
    elim (name_cmp n e.0) as (λ r. AreTexts (finite.by_order r ((n, t) ∷ e ∷ es) ((e.0, t) ∷ es) (e ∷ finite.put name_cmp n t es))) [
      | Less ↦ (one, all)
      | Equal ↦ all
      | Greater ↦ (all.0, rest)
    ]

pub put_directory : (es new : Entries) (n : Name) (t : Tree) → listed new ≡ finite.put name_cmp n t (listed es) → IsDirectory es → IsUtf8 n → IsDirectory new
put_directory es new n t is h text = record {
  sorted = subst (λ (xs : List Row). IsTrue (finite.is_sorted name_cmp xs)) (sym is)
      (from_T (finite.is_sorted name_cmp (finite.put name_cmp n t (listed es))) (finite.is_sorted-put name_cmp nat_list_cmp_total n t (listed es) (to_T (finite.is_sorted name_cmp (listed es)) h.sorted)));
  texts = subst AreTexts (sym is) (put_texts (listed es) n t h.texts text);
}

-- ---- at the place that a binary search tells

pub put_found : (names : List Name) (objects : List Object) → length names ≡ length objects → Rises names objects → (xs : List Name) → xs ≡ names → (place : ℕ) (n : Name) (o : Object) → place < length xs
    → ((d : Name) → name_cmp (get_or xs place d) n ≡ Equal) → listed (paired names (set objects place o)) ≡ finite.put name_cmp n (tree_of o) (listed (paired names objects))
put_found names objects e h xs same place n o w ok =
    let within : place < length names = omega (arith, ap length same) in
    let there : name_cmp (get_or names place n) n ≡ Equal = subst (λ (ys : List Name). name_cmp (get_or ys place n) n ≡ Equal) same (ok n) in
    put_here names objects e h place n o within (sym (same_name (get_or names place n) n there))

pub put_missed : (names : List Name) (objects : List Object) → length names ≡ length objects → Rises names objects → (xs : List Name) → xs ≡ names → (place : ℕ) (n : Name) (o : Object) → place ≤ length xs
    → (IsNonDecreasingBy (λ y. ordering_index (name_cmp y n)) xs → IsPartitionPoint (λ y. name_cmp y n ≡ Less) (λ y. name_cmp y n ≡ Greater) xs place)
    → listed (paired (insert names place n) (insert objects place o)) ≡ finite.put name_cmp n (tree_of o) (listed (paired names objects))
put_missed names objects e h xs same place n o w position =
    let parts : IsPartitionPoint (λ y. name_cmp y n ≡ Less) (λ y. name_cmp y n ≡ Greater) names place =
    subst (λ (ys : List Name). IsPartitionPoint (λ y. name_cmp y n ≡ Less) (λ y. name_cmp y n ≡ Greater) ys place) same
    (position (subst (λ (ys : List Name). IsNonDecreasingBy (λ y. ordering_index (name_cmp y n)) ys) (sym same) (non_decreasing names objects e h n))) in
    put_new names objects e place n o (omega (arith, ap length same)) (λ k l. parts.0 k [] (omega arith) l) (λ k l m. parts.1 k [] l m)

pub is_ok_then : {A E : Type 0} (r : Result A E) → is_err r ≡ false → is_ok r ≡ true
is_ok_then (Ok x) h = refl
is_ok_then (Err x) h = absurd (cc)

pub same_count : {A B : Type 0} (xs : List A) (ys : List B) (place : ℕ) (x : A) (y : B) → length xs ≡ length ys → length (insert xs place x) ≡ length (insert ys place y)
same_count xs ys zero x y e = ap suc e
same_count [] [] (suc place) x y e = refl
same_count [] (b ∷ ys) (suc place) x y e = absurd (omega arith)
same_count (a ∷ xs) [] (suc place) x y e = absurd (omega arith)
same_count (a ∷ xs) (b ∷ ys) (suc place) x y e = ap suc (same_count xs ys place x y (omega arith))
