-- The long values of a directory, one after another, stand by their references.
use Rattle.std.proofs.Common.{◌≡◌, ℕ, zero, suc, ◌<◌, ◌≤◌, true, false, cond, List, [], ◌∷◌, ◌++◌, length, get_or, Option, Some, None, refl, sym, ap, ap₂, ◌∙◌, subst, arith, Less, Greater}
use Rattle.std.specs.Prelude.{IsTrue, Contains}
use Rattle.std.specs.FinMap.Entries as finite
use Rattle.std.specs.List.{AllByRecursion}
use Rattle.std.specs.Ordering.{is_lt, ordering_reverse}
use Rattle.std.specs.Str.{IsUtf8}
use Rattle.std.proofs.lemmas.Cmp.{nat_list_cmp_total}
use Rattle.std.proofs.lemmas.List.Elements.{Contains-append_left, Contains-append_right}
use Rattle.fl_digest.specs.declared.Hash.{Hash}
use Rattle.fl_digest.specs.Reference.{reference_of}
use Rattle.kvs_model.specs.Store.{Name}
use Rattle.tree_rules.specs.Names.{name_cmp}
use Rattle.tree_rules.specs.Objects.{Tree, val, valref, dir, dirref, symlink, Entries, no_entries, entry, entries_of, listed}
use Rattle.tree_rules.specs.Texts.{is_long}
use Rattle.tree_rules.proofs.Objects.{and_parts, less_of}
use Rattle.tree_objects.specs.Directories.{names_of}
use Rattle.tree_objects.specs.Level.{tree_of, paired}
use Rattle.std.proofs.lemmas.Bool.Decides.{nat_tests}
use Rattle.tree_objects.specs.declared.object.Object.{Object}
use Rattle.tree_objects.specs.declared.object.Object.TheVariants.{Val, Valref, Dir, Dirref, Symlink}
use Rattle.tree_objects.proofs.Search.{self_name}
use Rattle.tree_store.specs.Long.{is_long_value}
use Rattle.tree_store.specs.Shown.{shortened, shortened_at, all_shortened, long_values, long_values_at}

-- ---- the first so many

abbrev pub first_shortened : Hash → ℕ → Entries → Entries
first_shortened h zero es = es
first_shortened h (suc i) no_entries = no_entries
first_shortened h (suc i) (entry name tree es) = entry name (shortened h tree) (first_shortened h i es)

pub first_more : (h : Hash) (i : ℕ) (es : Entries) → shortened_at h i (first_shortened h i es) ≡ first_shortened h (suc i) es
first_more h zero no_entries = refl
first_more h zero (entry name tree es) = refl
first_more h (suc i) no_entries = refl
first_more h (suc i) (entry name tree es) = ap (entry name (shortened h tree)) (first_more h i es)

pub first_all : (h : Hash) (i : ℕ) (es : Entries) → length (names_of es) ≤ i → first_shortened h i es ≡ all_shortened h es
first_all h zero no_entries w = refl
first_all h zero (entry name tree es) w = absurd (omega arith)
first_all h (suc i) no_entries w = refl
first_all h (suc i) (entry name tree es) w = ap (entry name (shortened h tree)) (first_all h i es (omega arith))

pub names_first : (h : Hash) (i : ℕ) (es : Entries) → names_of (first_shortened h i es) ≡ names_of es
names_first h zero es = refl
names_first h (suc i) no_entries = refl
names_first h (suc i) (entry name tree es) = ap (λ (ns : List Name). name ∷ ns) (names_first h i es)

pub values_first : (h : Hash) (i : ℕ) (es : Entries) → long_values_at i (first_shortened h i es) ≡ long_values_at i es
values_first h zero es = refl
values_first h (suc i) no_entries = refl
values_first h (suc i) (entry name tree es) = values_first h i es

-- ---- the values at each place are those of all

own_values : (name : Name) (tree : Tree) (es : Entries) → long_values (entry name tree es) ≡ long_values (entry name tree no_entries) ++ long_values es
own_values name (val bytes) es =
    elim (is_long bytes) as (λ b. cond b (bytes ∷ []) [] ++ long_values es ≡ (cond b (bytes ∷ []) [] ++ []) ++ long_values es) [ true ↦ refl | false ↦ refl ]
own_values name (valref references) es = refl
own_values name (dir inner) es = refl
own_values name (dirref reference) es = refl
own_values name (symlink target) es = refl

pub of_all : (i : ℕ) (es : Entries) (bytes : List ℕ) → Contains (long_values_at i es) bytes → Contains (long_values es) bytes
of_all i no_entries bytes c = c
of_all zero (entry name tree es) bytes c = subst (λ (xs : List (List ℕ)). Contains xs bytes) (sym (own_values name tree es)) (Contains-append_left (long_values (entry name tree no_entries)) (long_values es) bytes c)
of_all (suc i) (entry name tree es) bytes c = subst (λ (xs : List (List ℕ)). Contains xs bytes) (sym (own_values name tree es)) (Contains-append_right (long_values (entry name tree no_entries)) (long_values es) bytes (of_all i es bytes c))

both_parts : (P : List ℕ → Type 0) (xs ys : List (List ℕ)) → AllByRecursion P xs → AllByRecursion P ys → AllByRecursion P (xs ++ ys)
both_parts P [] ys a b = b
both_parts P (x ∷ xs) ys a b = (a.0, both_parts P xs ys a.1 b)

pub all_held : (P : List ℕ → Type 0) (es : Entries) → ((i : ℕ) → i < length (names_of es) → AllByRecursion P (long_values_at i es)) → AllByRecursion P (long_values es)
all_held P no_entries each = tt
all_held P (entry name tree es) each =
    subst (AllByRecursion P) (sym (own_values name tree es)) (both_parts P (long_values (entry name tree no_entries)) (long_values es) (each 0 (omega arith)) (all_held P es (λ i w. each (suc i) (omega arith))))

-- ---- one place

abbrev pub tree_at : ℕ → Entries → Option Tree
tree_at index no_entries = None
tree_at zero (entry name tree es) = Some tree
tree_at (suc index) (entry name tree es) = tree_at index es

pub place_is : (names : List Name) (objects : List Object) (i : ℕ) (o : Object) → length objects ≡ length names → i < length names → o ≡ get_or objects i o → tree_at i (paired names objects) ≡ Some (tree_of o)
place_is [] objects i o e w is = absurd (omega arith)
place_is (n ∷ names) [] i o e w is = absurd (omega arith)
place_is (n ∷ names) (p ∷ objects) zero o e w is = ap (λ (x : Object). Some (tree_of x)) (sym is)
place_is (n ∷ names) (p ∷ objects) (suc i) o e w is = place_is names objects i o (omega arith) (omega arith) is

some_tree : (a b : Tree) → Some a ≡ Some b → a ≡ b
some_tree a b e = cc

pub stays_at : (h : Hash) (i : ℕ) (es : Entries) (tree : Tree) → tree_at i es ≡ Some tree → shortened h tree ≡ tree → shortened_at h i es ≡ es
stays_at h i no_entries tree is same = refl
stays_at h zero (entry name other es) tree is same = ap (λ (t : Tree). entry name t es) (ap (shortened h) (some_tree other tree is) ∙ same ∙ sym (some_tree other tree is))
stays_at h (suc i) (entry name other es) tree is same = ap (entry name other) (stays_at h i es tree is same)

pub values_at : (i : ℕ) (es : Entries) (tree : Tree) → tree_at i es ≡ Some tree → long_values_at i es ≡ long_values (entry [] tree no_entries)
values_at i no_entries tree is = absurd (let e : None ≡ Some tree = is in cc)
values_at zero (entry name (val bytes) es) tree is = ap (λ (t : Tree). long_values (entry [] t no_entries)) (some_tree (val bytes) tree is)
values_at zero (entry name (valref references) es) tree is = ap (λ (t : Tree). long_values (entry [] t no_entries)) (some_tree (valref references) tree is)
values_at zero (entry name (dir inner) es) tree is = ap (λ (t : Tree). long_values (entry [] t no_entries)) (some_tree (dir inner) tree is)
values_at zero (entry name (dirref reference) es) tree is = ap (λ (t : Tree). long_values (entry [] t no_entries)) (some_tree (dirref reference) tree is)
values_at zero (entry name (symlink target) es) tree is = ap (λ (t : Tree). long_values (entry [] t no_entries)) (some_tree (symlink target) tree is)
values_at (suc i) (entry name other es) tree is = values_at i es tree is

pub value_at : (i : ℕ) (es : Entries) (bytes : List ℕ) → tree_at i es ≡ Some (val bytes) → is_long bytes ≡ true → long_values_at i es ≡ bytes ∷ []
value_at i es bytes is long = values_at i es (val bytes) is ∙ ap (λ b. cond b (bytes ∷ []) [] ++ []) long

pub short_at : (i : ℕ) (es : Entries) (bytes : List ℕ) → tree_at i es ≡ Some (val bytes) → is_long bytes ≡ false → long_values_at i es ≡ []
short_at i es bytes is short = values_at i es (val bytes) is ∙ ap (λ b. cond b (bytes ∷ []) [] ++ []) short

pub short_same : (h : Hash) (bytes : List ℕ) → is_long bytes ≡ false → shortened h (val bytes) ≡ val bytes
short_same h bytes short = ap (λ b. cond b (valref (reference_of h bytes ∷ [])) (val bytes)) short

pub long_same : (h : Hash) (bytes : List ℕ) → is_long bytes ≡ true → shortened h (val bytes) ≡ valref (reference_of h bytes ∷ [])
long_same h bytes long = ap (λ b. cond b (valref (reference_of h bytes ∷ [])) (val bytes)) long

pub object_same : (h : Hash) (tree : Tree) → is_long_value tree ≡ false → shortened h tree ≡ tree
object_same h (val bytes) short = short_same h bytes short
object_same h (valref references) short = refl
object_same h (dir inner) short = refl
object_same h (dirref reference) short = refl
object_same h (symlink target) short = refl

pub object_none : (tree : Tree) → is_long_value tree ≡ false → long_values (entry [] tree no_entries) ≡ []
object_none (val bytes) short = ap (λ b. cond b (bytes ∷ []) [] ++ []) short
object_none (valref references) short = refl
object_none (dir inner) short = refl
object_none (dirref reference) short = refl
object_none (symlink target) short = refl

below_name : (n : Name) (es : Entries) (i : ℕ) (name : Name) → IsTrue (finite.below_all name_cmp n (listed es)) → i < length (names_of es) → name ≡ get_or (names_of es) i name → name_cmp n name ≡ Less
below_name n no_entries i name below w is = absurd (omega arith)
below_name n (entry m tree es) zero name below w is =
    ap (name_cmp n) is ∙ less_of (name_cmp n m) (and_parts (is_lt (name_cmp n m)) (finite.below_all name_cmp n (listed es)) below).0
below_name n (entry m tree es) (suc i) name below w is = below_name n es i name (and_parts (is_lt (name_cmp n m)) (finite.below_all name_cmp n (listed es)) below).1 (omega arith) is

listed_more : (name : Name) (tree : Tree) (a b : List (Name × Tree)) → a ≡ b → entries_of ((name, tree) ∷ a) ≡ entry name tree (entries_of b)
listed_more name tree a b e = ap (λ (rows : List (Name × Tree)). entry name tree (entries_of rows)) e

entries_again : (es : Entries) → entries_of (listed es) ≡ es
entries_again no_entries = refl
entries_again (entry name tree es) = ap (entry name tree) (entries_again es)

-- an object put under the name at a place
pub put_at : (h : Hash) (es : Entries) (i : ℕ) (name : Name) (tree new : Tree) → IsTrue (finite.is_sorted name_cmp (listed es)) → i < length (names_of es) → name ≡ get_or (names_of es) i name → tree_at i es ≡ Some tree → shortened h tree ≡ new
    → entries_of (finite.put name_cmp name new (listed es)) ≡ shortened_at h i es
put_at h no_entries i name tree new sorted w is at e = absurd (omega arith)
put_at h (entry m other es) zero name tree new sorted w is at e =
    ap (λ r. entries_of (finite.by_order r ((name, new) ∷ (m, other) ∷ listed es) ((m, new) ∷ listed es) ((m, other) ∷ finite.put name_cmp name new (listed es)))) (ap (name_cmp name) (sym is) ∙ self_name name)
    ∙ ap (entry m new) (entries_again es)
    ∙ ap (λ (t : Tree). entry m t es) (sym e ∙ ap (shortened h) (sym (some_tree other tree at)))
put_at h (entry m other es) (suc i) name tree new sorted w is at e =
    let parts = and_parts (finite.below_all name_cmp m (listed es)) (finite.is_sorted name_cmp (listed es)) sorted in
    let behind : name_cmp name m ≡ Greater = nat_list_cmp_total.antisymm name m ∙ ap ordering_reverse (below_name m es i name parts.0 (omega arith) is) in
    ap (λ r. entries_of (finite.by_order r ((name, new) ∷ (m, other) ∷ listed es) ((m, new) ∷ listed es) ((m, other) ∷ finite.put name_cmp name new (listed es)))) behind
    ∙ ap (entry m other) (put_at h es i name tree new parts.1 (omega arith) is at e)

pub text_at : (names : List Name) (i : ℕ) (name : Name) → AllByRecursion IsUtf8 names → i < length names → name ≡ get_or names i name → IsUtf8 name
text_at [] i name all w is = absurd (omega arith)
text_at (n ∷ names) zero name all w is = subst IsUtf8 (sym is) all.0
text_at (n ∷ names) (suc i) name all w is = text_at names i name all.1 (omega arith) is

-- ---- what the tests of the code mean

pub short_of : (bytes text : List ℕ) → text ≡ bytes → length text ≤ 64 → is_long bytes ≡ false
short_of bytes text is w = grind (arith, nat_tests, ap length is)

pub long_of : (bytes text : List ℕ) → text ≡ bytes → 64 < length text → is_long bytes ≡ true
long_of bytes text is w = grind (arith, nat_tests, ap length is)

pub other_same : (h : Hash) (o : Object) → ((bytes : List ℕ) → o ≡ Val bytes → ⊥) → shortened h (tree_of o) ≡ tree_of o
other_same h (Val bytes) unlike = absurd (unlike bytes refl)
other_same h (Valref references) unlike = refl
other_same h (Dir es) unlike = refl
other_same h (Dirref reference) unlike = refl
other_same h (Symlink target) unlike = refl

pub other_none : (o : Object) → ((bytes : List ℕ) → o ≡ Val bytes → ⊥) → long_values (entry [] (tree_of o) no_entries) ≡ []
other_none (Val bytes) unlike = absurd (unlike bytes refl)
other_none (Valref references) unlike = refl
other_none (Dir es) unlike = refl
other_none (Dirref reference) unlike = refl
other_none (Symlink target) unlike = refl

pub name_is : (names all : List Name) (i : ℕ) (found name : Name) → name ≡ found → found ≡ get_or names i found → names ≡ all → name ≡ get_or all i name
name_is names all i found name e f g = e ∙ f ∙ ap₂ (λ (ns : List Name) (d : Name). get_or ns i d) g (sym e)

pub one_of_all : (all : List (List ℕ)) (bytes : List ℕ) → all ≡ bytes ∷ [] → Contains all bytes
one_of_all all bytes is = subst (λ (xs : List (List ℕ)). Contains xs bytes) (sym is) (0, omega arith, refl)
