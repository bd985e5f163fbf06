-- A name among names that rise.
use Rattle.std.proofs.Common.{◌≡◌, ℕ, zero, suc, ◌≤◌, ◌<◌, false, cond, List, [], ◌∷◌, length, get_or, refl, sym, ap, ◌∙◌, subst, arith, Some, None, Ordering, Less, Equal, Greater}
use Rattle.std.specs.Prelude.{IsTrue, ◌⊎◌}
use Rattle.std.specs.List.Sorted.{IsNonDecreasingBy, IsPartitionPoint}
use Rattle.std.proofs.Common.{inl, inr}
use Rattle.std.specs.Ordering.{is_lt, is_eq, ordering_reverse, ordering_index}
use Rattle.std.specs.FinMap.{nat_cmp-IsAntisymmetric, slice_cmp-IsAntisymmetric}
use Rattle.std.specs.FinMap.Entries as finite
use Rattle.std.proofs.lemmas.Cmp.{nat_list_cmp_total, tied_itself}
use Rattle.kvs_model.specs.Store.{Name}
use Rattle.tree_rules.specs.Objects.{listed}
use Rattle.tree_rules.specs.Names.{name_cmp}
use Rattle.tree_objects.specs.Level.{tree_of, paired}
use Rattle.tree_objects.specs.declared.object.Object.{Object}
use Rattle.tree_objects.proofs.Pairs.{and_parts, less_is}

abbrev pub Rises : List Name → List Object → Type 0
Rises names objects = IsTrue (finite.is_sorted name_cmp (listed (paired names objects)))

pub below_get : (n : Name) (names : List Name) (objects : List Object) → length names ≡ length objects → IsTrue (finite.below_all name_cmp n (listed (paired names objects)))
    → (i : ℕ) (d : Name) → i < length names → name_cmp n (get_or names i d) ≡ Less
below_get n [] objects e h i d w = absurd (omega arith)
below_get n (k ∷ ks) [] e h i d w = absurd (omega arith)
below_get n (k ∷ ks) (o ∷ os) e h zero d w = less_is (name_cmp n k) (and_parts (is_lt (name_cmp n k)) (finite.below_all name_cmp n (listed (paired ks os))) h).0
below_get n (k ∷ ks) (o ∷ os) e h (suc i) d w = below_get n ks os (omega arith) (and_parts (is_lt (name_cmp n k)) (finite.below_all name_cmp n (listed (paired ks os))) h).1 i d (omega arith)

-- an earlier name is below a later one
pub in_order : (names : List Name) (objects : List Object) → length names ≡ length objects → Rises names objects → (i j : ℕ) (d : Name) → i < j → j < length names → name_cmp (get_or names i d) (get_or names j d) ≡ Less
in_order [] objects e h i j d l w = absurd (omega arith)
in_order (n ∷ ns) [] e h i j d l w = absurd (omega arith)
in_order (n ∷ ns) (o ∷ os) e h i zero d l w = absurd (omega arith)
in_order (n ∷ ns) (o ∷ os) e h zero (suc j) d l w = below_get n ns os (omega arith) (and_parts (finite.below_all name_cmp n (listed (paired ns os))) (finite.is_sorted name_cmp (listed (paired ns os))) h).0 j d (omega arith)
in_order (n ∷ ns) (o ∷ os) e h (suc i) (suc j) d l w = in_order ns os (omega arith) (and_parts (finite.below_all name_cmp n (listed (paired ns os))) (finite.is_sorted name_cmp (listed (paired ns os))) h).1 i j d (omega arith) (omega arith)

pub turned : (a b : Name) → name_cmp a b ≡ Less → name_cmp b a ≡ Greater
turned a b h = nat_list_cmp_total.antisymm b a ∙ ap ordering_reverse h

pub same_name : (a b : Name) → name_cmp a b ≡ Equal → a ≡ b
same_name = slice_cmp-IsAntisymmetric nat_cmp-IsAntisymmetric

pub self_name : (a : Name) → name_cmp a a ≡ Equal
self_name a = tied_itself nat_list_cmp_total a

-- ---- what is found

pub find_here : (names : List Name) (objects : List Object) → length names ≡ length objects → Rises names objects → (i : ℕ) (name : Name) (o : Object) → i < length names → name ≡ get_or names i name → o ≡ get_or objects i o
    → finite.find name_cmp name (listed (paired names objects)) ≡ Some (tree_of o)
find_here [] objects e h i name o w is it = absurd (omega arith)
find_here (n ∷ ns) [] e h i name o w is it = absurd (omega arith)
find_here (n ∷ ns) (p ∷ ps) e h zero name o w is it =
    ap (λ r. cond (is_eq r) (Some (tree_of p)) (finite.find name_cmp name (listed (paired ns ps)))) (ap (name_cmp name) (sym is) ∙ self_name name) ∙ ap (λ (q : Object). Some (tree_of q)) (sym it)
find_here (n ∷ ns) (p ∷ ps) e h (suc i) name o w is it =
    let parts = and_parts (finite.below_all name_cmp n (listed (paired ns ps))) (finite.is_sorted name_cmp (listed (paired ns ps))) h in
    let less : name_cmp n name ≡ Less = ap (name_cmp n) is ∙ below_get n ns ps (omega arith) parts.0 i name (omega arith) in
    ap (λ r. cond (is_eq r) (Some (tree_of p)) (finite.find name_cmp name (listed (paired ns ps)))) (turned n name less) ∙ find_here ns ps (omega arith) parts.1 i name o (omega arith) is it

pub apart : (a b : Name) → (name_cmp b a ≡ Equal → ⊥) → is_eq (name_cmp a b) ≡ false
apart a b h =
    elim (name_cmp a b) as (λ r. name_cmp a b ≡ r → is_eq r ≡ false) [
      | Less ↦ λ e. refl
      | Equal ↦ λ e. absurd (h (ap (λ (x : Name). name_cmp x a) (sym (same_name a b e)) ∙ self_name a))
      | Greater ↦ λ e. refl
    ] refl

pub find_none : (names : List Name) (objects : List Object) → length names ≡ length objects → (name : Name) → ((i : ℕ) → i < length names → name_cmp (get_or names i []) name ≡ Equal → ⊥)
    → finite.find name_cmp name (listed (paired names objects)) ≡ None
find_none [] objects e name h = refl
find_none (n ∷ ns) [] e name h = absurd (omega arith)
find_none (n ∷ ns) (p ∷ ps) e name h =
    ap (λ b. cond b (Some (tree_of p)) (finite.find name_cmp name (listed (paired ns ps)))) (apart name n (h 0 (omega arith))) ∙ find_none ns ps (omega arith) name (λ i w. h (suc i) (omega arith))

-- ---- a binary search

le_split : (i j : ℕ) → i ≤ j → (i < j) ⊎ (i ≡ j)
le_split zero zero h = inr refl
le_split zero (suc j) h = inl (omega arith)
le_split (suc i) zero h = absurd (omega arith)
le_split (suc i) (suc j) h = elim (le_split i j (omega arith)) [ inl l ↦ inl (omega arith) | inr e ↦ inr (ap suc e) ]

least : (r : Ordering) → ordering_index Less ≤ ordering_index r
least Less = omega arith
least Equal = omega arith
least Greater = omega arith

greatest : (r : Ordering) → ordering_index r ≤ ordering_index Greater
greatest Less = omega arith
greatest Equal = omega arith
greatest Greater = omega arith

index_rises : (x y n : Name) → name_cmp x y ≡ Less → ordering_index (name_cmp x n) ≤ ordering_index (name_cmp y n)
index_rises x y n less =
    elim (name_cmp y n) as (λ r. name_cmp y n ≡ r → ordering_index (name_cmp x n) ≤ ordering_index r) [
      | Less ↦ λ e. subst (λ r. ordering_index r ≤ ordering_index Less) (sym (nat_list_cmp_total.trans x y n less e)) (least Less)
      | Equal ↦ λ e. subst (λ r. ordering_index r ≤ ordering_index Equal) (sym (ap (name_cmp x) (sym (same_name y n e)) ∙ less)) (least Equal)
      | Greater ↦ λ e. greatest (name_cmp x n)
    ] refl

pub non_decreasing : (names : List Name) (objects : List Object) → length names ≡ length objects → Rises names objects → (n : Name) → IsNonDecreasingBy (λ y. ordering_index (name_cmp y n)) names
non_decreasing names objects e h n i j d l w =
    elim (le_split i j l) [
      | inl k ↦ index_rises (get_or names i d) (get_or names j d) n (in_order names objects e h i j d k w)
      | inr k ↦ let same : ordering_index (name_cmp (get_or names i d) n) ≡ ordering_index (name_cmp (get_or names j d) n) = ap (λ (m : ℕ). ordering_index (name_cmp (get_or names m d) n)) k in omega arith
    ]

-- where a binary search finds no place, the name isn't there
pub not_there : (names : List Name) (n : Name) (place : ℕ) → IsPartitionPoint (λ y. name_cmp y n ≡ Less) (λ y. name_cmp y n ≡ Greater) names place → (i : ℕ) → i < length names → name_cmp (get_or names i []) n ≡ Equal → ⊥
not_there names n place parts i w e =
    elim (le_or_less place i) [
      | inl above ↦ (let g = sym (parts.1 i [] above w) ∙ e in absurd (cc))
      | inr below ↦ (let g = sym (parts.0 i [] (omega arith) below) ∙ e in absurd (cc))
    ] where
      le_or_less : (m k : ℕ) → (m ≤ k) ⊎ (k < m)
      le_or_less zero k = inl (omega arith)
      le_or_less (suc m) zero = inr (omega arith)
      le_or_less (suc m) (suc k) = elim (le_or_less m k) [ inl l ↦ inl (omega arith) | inr g ↦ inr (omega arith) ]

pub get_found : (names : List Name) (objects : List Object) → length names ≡ length objects → Rises names objects → (xs : List Name) → xs ≡ names → (place : ℕ) (n : Name) (o : Object) → place < length xs
    → ((d : Name) → name_cmp (get_or xs place d) n ≡ Equal) → o ≡ get_or objects place o → finite.find name_cmp n (listed (paired names objects)) ≡ Some (tree_of o)
get_found names objects e h xs same place n o w ok it =
    let within : place < length names = omega (arith, ap length same) in
    let there : name_cmp (get_or names place n) n ≡ Equal = subst (λ (ys : List Name). name_cmp (get_or ys place n) n ≡ Equal) same (ok n) in
    find_here names objects e h place n o within (sym (same_name (get_or names place n) n there)) it

pub get_missed : (names : List Name) (objects : List Object) → length names ≡ length objects → Rises names objects → (xs : List Name) → xs ≡ names → (place : ℕ) (n : Name)
    → (IsNonDecreasingBy (λ y. ordering_index (name_cmp y n)) xs → IsPartitionPoint (λ y. name_cmp y n ≡ Less) (λ y. name_cmp y n ≡ Greater) xs place)
    → finite.find name_cmp n (listed (paired names objects)) ≡ None
get_missed names objects e h xs same place n position =
    let parts : IsPartitionPoint (λ y. name_cmp y n ≡ Less) (λ y. name_cmp y n ≡ Greater) names place =
    subst (λ (ys : List Name). IsPartitionPoint (λ y. name_cmp y n ≡ Less) (λ y. name_cmp y n ≡ Greater) ys place) same
    (position (subst (λ (ys : List Name). IsNonDecreasingBy (λ y. ordering_index (name_cmp y n)) ys) (sym same) (non_decreasing names objects e h n))) in
    find_none names objects e n (not_there names n place parts)
